-- The hull of a form's values at the corners, by the ends of one argument's range after the other.
use Rattle.std.specs.Prelude.{◌≡◌, [], ◌∷◌, ℤ, pos, fold, if◌then◌else◌}
use Rattle.std.specs.Int.{int_min, int_max}
use Rattle.std.proofs.Common.{refl, sym, ap₂, ◌∙◌}
use Rattle.fx_routines.specs.declared.operation.ScaledOp.{ScaledOp}
use Rattle.fx_routines.specs.declared.operation.ScaledOp.TheVariants.{Convert, Sub, AbsDiff}
use Rattle.mfx_scaled.specs.declared.binary_points.Points.{Points}
use Rattle.fx_core.specs.Arguments.{two}
use Rattle.part_rules.specs.declared.bounds.Bounds.{Bounds}
use Rattle.part_rules.specs.Ranges.{least_among, greatest_among}
use Rattle.mfx_rules.specs.ScaledRules.{level_points, scaled_corner_values, scaled_values}
use Rattle.mfx_rules.specs.ScaledCorners.{form_value, form_least_over_second, form_greatest_over_second, form_least_at_corners, form_greatest_at_corners}
use Rattle.mfx_rules.proofs.ArithCornerHulls.{Joins, least_joins, greatest_joins, four_joined, passes}

-- where the second argument isn't looked at, and where both are
of_one : (f : ℤ → ℤ → ℤ) → Joins f → (g : ℤ → ℤ) (a b : ℤ) → f (f (g a) (g a)) (f (g b) (g b)) ≡ fold f (g a) (g b ∷ [])
of_one f j g a b = ap₂ f (j.itself (g a)) (j.itself (g b))

of_both : (f : ℤ → ℤ → ℤ) → Joins f → (g : ℤ → ℤ → ℤ) (a b c d : ℤ) → f (f (g a c) (g a d)) (f (g b c) (g b d)) ≡ fold f (g a c) (g a d ∷ g b c ∷ g b d ∷ [])
of_both f j g a b c d = j.regroup (f (g a c) (g a d)) (g b c) (g b d)

least_is : (op : ScaledOp) (points : Points) (x y : Bounds) → form_least_at_corners op points x y ≡ least_among (scaled_corner_values op points (two x y))
unfolding form_least_at_corners form_least_over_second form_value
least_is Convert points x y = of_one int_min least_joins (λ s. form_value Convert points s y.lo) x.lo x.hi
least_is op points x y = of_both int_min least_joins (λ s t. form_value op points s t) x.lo x.hi y.lo y.hi

greatest_is : (op : ScaledOp) (points : Points) (x y : Bounds) → form_greatest_at_corners op points x y ≡ greatest_among (scaled_corner_values op points (two x y))
unfolding form_greatest_at_corners form_greatest_over_second form_value
greatest_is Convert points x y = of_one int_max greatest_joins (λ s. form_value Convert points s y.lo) x.lo x.hi
greatest_is op points x y = of_both int_max greatest_joins (λ s t. form_value op points s t) x.lo x.hi y.lo y.hi

-- a form that is no distance has the values at the corners alone
pub plain_least : (op : ScaledOp) (points : Points) (x y : Bounds) → (op ≡ AbsDiff → ⊥) → form_least_at_corners op points x y ≡ least_among (scaled_values op points (two x y))
unfolding scaled_values
plain_least Convert points x y h = least_is Convert points x y
plain_least AbsDiff points x y h = absurd (h refl)
plain_least op points x y h = least_is op points x y

pub plain_greatest : (op : ScaledOp) (points : Points) (x y : Bounds) → (op ≡ AbsDiff → ⊥) → form_greatest_at_corners op points x y ≡ greatest_among (scaled_values op points (two x y))
unfolding scaled_values
plain_greatest Convert points x y h = greatest_is Convert points x y
plain_greatest AbsDiff points x y h = absurd (h refl)
plain_greatest op points x y h = greatest_is op points x y

-- a distance
pub abs_diff_least : (points : Points) (x y : Bounds) (r s l h : ℤ) → r ≡ (if passes l h then int_min s (pos 0) else s) → s ≡ form_least_at_corners AbsDiff points x y → l ≡ form_least_at_corners Sub (level_points points) x y → h ≡ form_greatest_at_corners Sub (level_points points) x y → r ≡ least_among (scaled_values AbsDiff points (two x y))
unfolding scaled_values form_value
abs_diff_least points x y r s l h e p q k =
    let level = level_points points in
    let inside = ap₂ passes (q ∙ least_is Sub level x y) (k ∙ greatest_is Sub level x y) in
    e ∙ ap₂ (λ t v. if t then int_min v (pos 0) else v) inside (p ∙ least_is AbsDiff points x y) ∙ sym (four_joined int_min (form_value AbsDiff points x.lo y.lo) (form_value AbsDiff points x.lo y.hi) (form_value AbsDiff points x.hi y.lo) (form_value AbsDiff points x.hi y.hi) (passes (least_among (scaled_corner_values Sub level (two x y))) (greatest_among (scaled_corner_values Sub level (two x y)))))

pub abs_diff_greatest : (points : Points) (x y : Bounds) (r s l h : ℤ) → r ≡ (if passes l h then int_max s (pos 0) else s) → s ≡ form_greatest_at_corners AbsDiff points x y → l ≡ form_least_at_corners Sub (level_points points) x y → h ≡ form_greatest_at_corners Sub (level_points points) x y → r ≡ greatest_among (scaled_values AbsDiff points (two x y))
unfolding scaled_values form_value
abs_diff_greatest points x y r s l h e p q k =
    let level = level_points points in
    let inside = ap₂ passes (q ∙ least_is Sub level x y) (k ∙ greatest_is Sub level x y) in
    e ∙ ap₂ (λ t v. if t then int_max v (pos 0) else v) inside (p ∙ greatest_is AbsDiff points x y) ∙ sym (four_joined int_max (form_value AbsDiff points x.lo y.lo) (form_value AbsDiff points x.lo y.hi) (form_value AbsDiff points x.hi y.lo) (form_value AbsDiff points x.hi y.hi) (passes (least_among (scaled_corner_values Sub level (two x y))) (greatest_among (scaled_corner_values Sub level (two x y)))))
