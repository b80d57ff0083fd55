use Rattle.std.proofs.Common.{◌∙◌, ap, ap₂}
use Rattle.std.specs.Int.{int_max, int_min}
use Rattle.mfx_rules.specs.ArithCorners.{corner_value, greatest_over_third, least_over_third}
use Rattle.mfx_rules.proofs.arith_ranges.over_third.Goals as goal

pub value_at-requires-clause-third : goal.value_at-requires-clause-third
value_at-requires-clause-third c = c.low_end-low.ensures.size

pub value_at-requires-clause-divisor : goal.value_at-requires-clause-divisor
value_at-requires-clause-divisor c = rw c.low_end-low.ensures.value c.requires.low_divisor

pub value_at-requires-2-clause-third : goal.value_at-requires-2-clause-third
value_at-requires-2-clause-third c = c.high_end-high.ensures.size

pub value_at-requires-2-clause-divisor : goal.value_at-requires-2-clause-divisor
value_at-requires-2-clause-divisor c = rw c.high_end-high.ensures.value c.requires.high_divisor

pub returns-clause-lo : goal.returns-clause-lo
unfolding least_over_third
returns-clause-lo c =
    c.joined.ensures.lo ∙ ap₂ int_min (c.at.ensures.lo ∙ c.value_at.ensures ∙ ap (corner_value c.args.op c.args.shift c.args.x.number c.args.y.number) c.low_end-low.ensures.value) (c.at-2.ensures.lo ∙ c.value_at-2.ensures ∙ ap (corner_value c.args.op c.args.shift c.args.x.number c.args.y.number) c.high_end-high.ensures.value)

pub returns-clause-hi : goal.returns-clause-hi
unfolding greatest_over_third
returns-clause-hi c =
    c.joined.ensures.hi ∙ ap₂ int_max (c.at.ensures.hi ∙ c.value_at.ensures ∙ ap (corner_value c.args.op c.args.shift c.args.x.number c.args.y.number) c.low_end-low.ensures.value) (c.at-2.ensures.hi ∙ c.value_at-2.ensures ∙ ap (corner_value c.args.op c.args.shift c.args.x.number c.args.y.number) c.high_end-high.ensures.value)
