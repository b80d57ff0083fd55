use Rattle.std.proofs.Common.{◌∙◌, ap, ap₂}
use Rattle.std.specs.Int.{int_max, int_min}
use Rattle.mfx_rules.specs.ArithCorners.{greatest_over_second, greatest_over_third, least_over_second, least_over_third}
use Rattle.mfx_rules.proofs.arith_ranges.over_second.Goals as goal

pub over_third-requires-clause-second : goal.over_third-requires-clause-second
over_third-requires-clause-second c = c.low_end.ensures.size

pub over_third-requires-2-clause-second : goal.over_third-requires-2-clause-second
over_third-requires-2-clause-second c = c.high_end.ensures.size

pub returns-clause-lo : goal.returns-clause-lo
unfolding least_over_second
returns-clause-lo c =
    c.joined.ensures.lo ∙ ap₂ int_min (c.over_third.ensures.lo ∙ ap (λ n. least_over_third c.args.op c.args.shift c.args.x.number n c.args.z) c.low_end.ensures.value) (c.over_third-2.ensures.lo ∙ ap (λ n. least_over_third c.args.op c.args.shift c.args.x.number n c.args.z) c.high_end.ensures.value)

pub returns-clause-hi : goal.returns-clause-hi
unfolding greatest_over_second
returns-clause-hi c =
    c.joined.ensures.hi ∙ ap₂ int_max (c.over_third.ensures.hi ∙ ap (λ n. greatest_over_third c.args.op c.args.shift c.args.x.number n c.args.z) c.low_end.ensures.value) (c.over_third-2.ensures.hi ∙ ap (λ n. greatest_over_third c.args.op c.args.shift c.args.x.number n c.args.z) c.high_end.ensures.value)
