-- The least of some gaps, with one more.
use Rattle.std.specs.Prelude.{◌≡◌, ℕ, zero, suc, ◌+◌, ◌-◌, ◌≤◌, min, List, ℤ}
use Rattle.std.proofs.Common.{ap, ap₂, ◌∙◌, arith}
use Rattle.ifx_rules.specs.LookUpRules.{gap_at, least_of_gaps}

pub least_of_more : (points : List ℤ) (i least gap : ℕ) → least ≡ least_of_gaps points (i - 1) → gap ≡ gap_at points i → 1 ≤ i → min least gap ≡ least_of_gaps points (i + 1 - 1)
unfolding least_of_gaps
least_of_more points zero least gap e f some = absurd (omega (arith, some))
least_of_more points (suc n) least gap e f some =
    ap₂ min (e ∙ ap (least_of_gaps points) {x = suc n - 1} {y = n} (omega arith)) f
    ∙ ap (least_of_gaps points) {x = suc n} {y = suc n + 1 - 1} (omega arith)
