use Rattle.std.proofs.Common.{◌∙◌, ap, ap₂}
use Rattle.std.specs.Int.{int_max, int_min}
use Rattle.mfx_rules.specs.ScaledCorners.{form_greatest_over_second, form_least_over_second, form_value}
use Rattle.mfx_rules.proofs.scaled_ranges.over_second.Goals as goal

pub value_at-requires-clause-second : goal.value_at-requires-clause-second
value_at-requires-clause-second c = c.low_end-low.ensures.size

pub value_at-requires-clause-divisor : goal.value_at-requires-clause-divisor
value_at-requires-clause-divisor c = rw c.low_end-low.ensures.value c.requires.divisor.0

pub value_at-requires-2-clause-second : goal.value_at-requires-2-clause-second
value_at-requires-2-clause-second c = c.high_end-high.ensures.size

pub value_at-requires-2-clause-divisor : goal.value_at-requires-2-clause-divisor
value_at-requires-2-clause-divisor c = rw c.high_end-high.ensures.value c.requires.divisor.1

pub returns-clause-lo : goal.returns-clause-lo
unfolding form_least_over_second
returns-clause-lo c =
    c.joined.ensures.lo ∙ ap₂ int_min (c.at.ensures.lo ∙ c.value_at.ensures ∙ ap (form_value c.args.op c.args.p c.args.x.number) c.low_end-low.ensures.value) (c.at-2.ensures.lo ∙ c.value_at-2.ensures ∙ ap (form_value c.args.op c.args.p c.args.x.number) c.high_end-high.ensures.value)

pub returns-clause-hi : goal.returns-clause-hi
unfolding form_greatest_over_second
returns-clause-hi c =
    c.joined.ensures.hi ∙ ap₂ int_max (c.at.ensures.hi ∙ c.value_at.ensures ∙ ap (form_value c.args.op c.args.p c.args.x.number) c.low_end-low.ensures.value) (c.at-2.ensures.hi ∙ c.value_at-2.ensures ∙ ap (form_value c.args.op c.args.p c.args.x.number) c.high_end-high.ensures.value)
