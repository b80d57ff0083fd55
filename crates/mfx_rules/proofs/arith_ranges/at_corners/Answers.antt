use Rattle.std.proofs.Common.{◌∙◌, ap, ap₂}
use Rattle.std.specs.Int.{int_max, int_min}
use Rattle.mfx_rules.specs.ArithCorners.{greatest_at_corners, greatest_over_second, least_at_corners, least_over_second}
use Rattle.mfx_rules.proofs.arith_ranges.at_corners.Goals as goal

pub over_second-requires-clause-first : goal.over_second-requires-clause-first
over_second-requires-clause-first c = c.low_end.ensures.size

pub over_second-requires-2-clause-first : goal.over_second-requires-2-clause-first
over_second-requires-2-clause-first c = c.high_end.ensures.size

pub returns-clause-lo : goal.returns-clause-lo
unfolding least_at_corners
returns-clause-lo c =
    c.joined.ensures.lo ∙ ap₂ int_min (c.over_second.ensures.lo ∙ ap (λ n. least_over_second c.args.op c.args.shift n c.args.y c.args.z) c.low_end.ensures.value) (c.over_second-2.ensures.lo ∙ ap (λ n. least_over_second c.args.op c.args.shift n c.args.y c.args.z) c.high_end.ensures.value)

pub returns-clause-hi : goal.returns-clause-hi
unfolding greatest_at_corners
returns-clause-hi c =
    c.joined.ensures.hi ∙ ap₂ int_max (c.over_second.ensures.hi ∙ ap (λ n. greatest_over_second c.args.op c.args.shift n c.args.y c.args.z) c.low_end.ensures.value) (c.over_second-2.ensures.hi ∙ ap (λ n. greatest_over_second c.args.op c.args.shift n c.args.y c.args.z) c.high_end.ensures.value)
