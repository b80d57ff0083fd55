-- Where a divisor may not be 0, it isn't at the ends of its range.
use Rattle.std.specs.Prelude.{◌≡◌, ◌≤◌, Bool, true, false, ℤ, ◌≤ℤ◌, unsigned_abs, None, Some, if◌then◌else◌}
use Rattle.std.proofs.Common.{refl, ap, ap₂, ◌∙◌, arith}
use Rattle.std.proofs.lemmas.Int.{ints}
use Rattle.part_rules.specs.declared.bounds.Bounds.{Bounds}
use Rattle.part_rules.specs.Errors.{may_be_zero}
use Rattle.part_rules.proofs.CornerHulls.{IsInside}
use Rattle.part_rules.proofs.Divisors.{stays_away}
use Rattle.part_rules.proofs.QuotientValues.{one_sided_divisor}

-- bounds by their fields
abbrev bounds_from : ℤ → ℤ → ℤ → Bounds
bounds_from lo hi err = record { lo = lo; hi = hi; err = err }

pub ends_of : (y : Bounds) → y.lo ≤ℤ y.hi → may_be_zero y ≡ false → (1 ≤ unsigned_abs y.lo) × (1 ≤ unsigned_abs y.hi)
ends_of y h away =
    let low : IsInside y.lo y.hi y.lo = record { low = omega (arith, ints); high = h } in
    let high : IsInside y.lo y.hi y.hi = record { low = h; high = omega (arith, ints) } in
    let side = (stays_away y away).side in
    (one_sided_divisor y.lo y.hi y.lo side low, one_sided_divisor y.lo y.hi y.hi side high)

-- what the rule gives where no divisor may be 0, from its fields, and where one may
pub gives_bounds : (fails : Bool) (lo hi err : ℤ) (b : Bounds) → fails ≡ false → lo ≡ b.lo → hi ≡ b.hi → err ≡ b.err → Some (bounds_from lo hi err) ≡ (if fails then None else Some b)
gives_bounds false lo hi err b e h k p = ap Some (ap₂ (λ (l u : ℤ). bounds_from l u err) h k ∙ ap (bounds_from b.lo b.hi) p)
gives_bounds true lo hi err b e h k p = absurd (cc)

pub gives_none : (fails : Bool) (b : Bounds) → fails ≡ true → None ≡ (if fails then None else Some b)
gives_none true b e = refl
gives_none false b e = absurd (cc)
