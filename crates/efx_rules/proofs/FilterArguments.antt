-- The rules of the filters read what they read alone: from the bounds of that, however the others are given, they give the same.
use Rattle.std.specs.Prelude.{◌≡◌, ℕ, ℤ}
use Rattle.std.proofs.Common.{refl}
use Rattle.fx_core.specs.Arguments.{two, three}
use Rattle.part_rules.specs.declared.bounds.Bounds.{Bounds}
use Rattle.efx_rules.specs.FilterRules.{gain_rounded, gain_bounds, lag_rounded, lag_bounds, difference_rounded, difference_bounds, value_rounded, value_bounds, average_bounds}

pub gain_bounds_of_one : (k : ℤ) (given : ℕ → Bounds) → gain_bounds k (λ p. given 0) ≡ gain_bounds k given
unfolding gain_bounds gain_rounded
gain_bounds_of_one k given = refl

pub lag_bounds_of_two : (teq : ℕ) (k : ℤ) (given : ℕ → Bounds) → lag_bounds teq k (two (given 0) (given 1)) ≡ lag_bounds teq k given
unfolding lag_bounds lag_rounded
lag_bounds_of_two teq k given = refl

pub difference_bounds_of_three : (teq : ℕ) (k : ℤ) (given : ℕ → Bounds) → difference_bounds teq k (three (given 0) (given 1) (given 2)) ≡ difference_bounds teq k given
unfolding difference_bounds difference_rounded
difference_bounds_of_three teq k given = refl

pub value_bounds_of_one : (given : ℕ → Bounds) → value_bounds (λ p. given 0) ≡ value_bounds given
unfolding value_bounds value_rounded
value_bounds_of_one given = refl

pub average_bounds_of_two : (given : ℕ → Bounds) → average_bounds (two (given 0) (given 1)) ≡ average_bounds given
unfolding average_bounds
average_bounds_of_two given = refl
