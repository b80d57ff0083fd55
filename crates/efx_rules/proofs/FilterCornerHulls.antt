-- The hull of the states of a lag at the corners, by one end of a range and then the other.
use Rattle.std.specs.Prelude.{◌≡◌, ℕ, [], ◌∷◌, ℤ}
use Rattle.std.specs.Int.{int_min, int_max}
use Rattle.std.proofs.Common.{ap, arith, ◌∙◌}
use Rattle.std.proofs.lemmas.Int.{ints, clamps}
use Rattle.fx_core.specs.Arguments.{two, three}
use Rattle.part_rules.specs.declared.bounds.Bounds.{Bounds}
use Rattle.part_rules.specs.Ranges.{corner_values, ends_of, least_among, greatest_among}
use Rattle.efx_rules.specs.FilterCorners.{states_over_drive, states_over_inputs, states_over_older}
use Rattle.efx_rules.specs.FilterRules.{lag_rounded, difference_rounded}

least_regroups : (a b c : ℤ) → int_min a (int_min b c) ≡ int_min (int_min a b) c
least_regroups a b c = omega (arith, ints, clamps)

greatest_regroups : (a b c : ℤ) → int_max a (int_max b c) ≡ int_max (int_max a b) c
greatest_regroups a b c = omega (arith, ints, clamps)

-- ---- what one number drives

pub least_over_drive : (teq : ℕ) (k : ℤ) (y x : Bounds) → int_min (least_among (states_over_drive teq k y.lo x)) (least_among (states_over_drive teq k y.hi x)) ≡ least_among (corner_values (lag_rounded teq k) (ends_of 2 (two y x)))
unfolding lag_rounded
least_over_drive teq k y x =
    let at = λ (s t : ℤ). lag_rounded teq k (two s t) in
    least_regroups (int_min (at y.lo x.lo) (at y.lo x.hi)) (at y.hi x.lo) (at y.hi x.hi)

pub greatest_over_drive : (teq : ℕ) (k : ℤ) (y x : Bounds) → int_max (greatest_among (states_over_drive teq k y.lo x)) (greatest_among (states_over_drive teq k y.hi x)) ≡ greatest_among (corner_values (lag_rounded teq k) (ends_of 2 (two y x)))
unfolding lag_rounded
greatest_over_drive teq k y x =
    let at = λ (s t : ℤ). lag_rounded teq k (two s t) in
    greatest_regroups (int_max (at y.lo x.lo) (at y.lo x.hi)) (at y.hi x.lo) (at y.hi x.hi)

-- ---- what a difference drives

pub least_over_inputs : (teq : ℕ) (k y : ℤ) (newer older : Bounds) → int_min (least_among (states_over_older teq k y newer.lo older)) (least_among (states_over_older teq k y newer.hi older)) ≡ least_among (states_over_inputs teq k y newer older)
least_over_inputs teq k y newer older =
    let at = λ (t u : ℤ). difference_rounded teq k (three y t u) in
    least_regroups (int_min (at newer.lo older.lo) (at newer.lo older.hi)) (at newer.hi older.lo) (at newer.hi older.hi)

pub greatest_over_inputs : (teq : ℕ) (k y : ℤ) (newer older : Bounds) → int_max (greatest_among (states_over_older teq k y newer.lo older)) (greatest_among (states_over_older teq k y newer.hi older)) ≡ greatest_among (states_over_inputs teq k y newer older)
greatest_over_inputs teq k y newer older =
    let at = λ (t u : ℤ). difference_rounded teq k (three y t u) in
    greatest_regroups (int_max (at newer.lo older.lo) (at newer.lo older.hi)) (at newer.hi older.lo) (at newer.hi older.hi)

least_with_four : (m e f g h : ℤ) → int_min m (least_among (e ∷ f ∷ g ∷ h ∷ [])) ≡ least_among (m ∷ e ∷ f ∷ g ∷ h ∷ [])
least_with_four m e f g h = least_regroups m (int_min (int_min e f) g) h ∙ ap (λ t. int_min t h) (least_regroups m (int_min e f) g ∙ ap (λ t. int_min t g) (least_regroups m e f))

greatest_with_four : (m e f g h : ℤ) → int_max m (greatest_among (e ∷ f ∷ g ∷ h ∷ [])) ≡ greatest_among (m ∷ e ∷ f ∷ g ∷ h ∷ [])
greatest_with_four m e f g h = greatest_regroups m (int_max (int_max e f) g) h ∙ ap (λ t. int_max t h) (greatest_regroups m (int_max e f) g ∙ ap (λ t. int_max t g) (greatest_regroups m e f))

pub least_over_difference : (teq : ℕ) (k : ℤ) (y newer older : Bounds) → int_min (least_among (states_over_inputs teq k y.lo newer older)) (least_among (states_over_inputs teq k y.hi newer older)) ≡ least_among (corner_values (difference_rounded teq k) (ends_of 3 (three y newer older)))
unfolding difference_rounded
least_over_difference teq k y newer older =
    let at = λ (t u : ℤ). difference_rounded teq k (three y.hi t u) in
    least_with_four (least_among (states_over_inputs teq k y.lo newer older)) (at newer.lo older.lo) (at newer.lo older.hi) (at newer.hi older.lo) (at newer.hi older.hi)

pub greatest_over_difference : (teq : ℕ) (k : ℤ) (y newer older : Bounds) → int_max (greatest_among (states_over_inputs teq k y.lo newer older)) (greatest_among (states_over_inputs teq k y.hi newer older)) ≡ greatest_among (corner_values (difference_rounded teq k) (ends_of 3 (three y newer older)))
unfolding difference_rounded
greatest_over_difference teq k y newer older =
    let at = λ (t u : ℤ). difference_rounded teq k (three y.hi t u) in
    greatest_with_four (greatest_among (states_over_inputs teq k y.lo newer older)) (at newer.lo older.lo) (at newer.lo older.hi) (at newer.hi older.lo) (at newer.hi older.hi)
