-- Bounds by their three numbers.
use Rattle.std.specs.Prelude.{◌≡◌, ℤ}
use Rattle.std.proofs.Common.{ap, ap₂, ◌∙◌}
use Rattle.part_rules.specs.declared.bounds.Bounds.{Bounds}

abbrev bounds_from : ℤ → ℤ → ℤ → Bounds
bounds_from lo hi err = record { lo = lo; hi = hi; err = err }

pub same_bounds : (lo hi err : ℤ) (b : Bounds) → lo ≡ b.lo → hi ≡ b.hi → err ≡ b.err → bounds_from lo hi err ≡ b
same_bounds lo hi err b h k p = ap₂ (λ (l u : ℤ). bounds_from l u err) h k ∙ ap (bounds_from b.lo b.hi) p
