use Rattle.std.proofs.Common.{◌∙◌, ap₂}
use Rattle.std.specs.Int.{int_max, int_min}
use Rattle.std.specs.Int.{w32}
use Rattle.std.proofs.lemmas.Int.{to_z-of_z}
use Rattle.efx_rules.specs.FilterRules.{gain_rounded}
use Rattle.efx_rules.proofs.filter_ranges.gain_range.Goals as goal

pub returns-clause-lo : goal.returns-clause-lo
unfolding gain_rounded
returns-clause-lo c =
    c.joined.ensures.lo ∙ ap₂ int_min (c.at.ensures.lo ∙ c.gain_at.ensures ∙ ap₂ (λ k n. gain_rounded k (λ p. n)) (to_z-of_z w32 c.args.k c.ranges.k) c.low_end.ensures.value) (c.at-2.ensures.lo ∙ c.gain_at-2.ensures ∙ ap₂ (λ k n. gain_rounded k (λ p. n)) (to_z-of_z w32 c.args.k c.ranges.k) c.high_end.ensures.value)

pub returns-clause-hi : goal.returns-clause-hi
unfolding gain_rounded
returns-clause-hi c =
    c.joined.ensures.hi ∙ ap₂ int_max (c.at.ensures.hi ∙ c.gain_at.ensures ∙ ap₂ (λ k n. gain_rounded k (λ p. n)) (to_z-of_z w32 c.args.k c.ranges.k) c.low_end.ensures.value) (c.at-2.ensures.hi ∙ c.gain_at-2.ensures ∙ ap₂ (λ k n. gain_rounded k (λ p. n)) (to_z-of_z w32 c.args.k c.ranges.k) c.high_end.ensures.value)
