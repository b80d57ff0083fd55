use Rattle.std.proofs.Common.{◌∙◌, ap, ap₂}
use Rattle.std.specs.Int.{int_max, int_min}
use Rattle.efx_rules.specs.FilterRules.{value_rounded}
use Rattle.efx_rules.proofs.filter_ranges.value_range.Goals as goal

pub returns-clause-lo : goal.returns-clause-lo
unfolding value_rounded
returns-clause-lo c =
    c.joined.ensures.lo ∙ ap₂ int_min (c.at-low.ensures.lo ∙ c.value_at.ensures ∙ ap (λ n. value_rounded (λ p. n)) c.least_state.ensures.value) (c.at-high.ensures.lo ∙ c.value_at-2.ensures ∙ ap (λ n. value_rounded (λ p. n)) c.greatest_state.ensures.value)

pub returns-clause-hi : goal.returns-clause-hi
unfolding value_rounded
returns-clause-hi c =
    c.joined.ensures.hi ∙ ap₂ int_max (c.at-low.ensures.hi ∙ c.value_at.ensures ∙ ap (λ n. value_rounded (λ p. n)) c.least_state.ensures.value) (c.at-high.ensures.hi ∙ c.value_at-2.ensures ∙ ap (λ n. value_rounded (λ p. n)) c.greatest_state.ensures.value)
