-- The rules of the forms with binary points are monotone: from narrower bounds each gives some where it gives some from wide
-- ones, and these lie inside of those.
use Rattle.std.specs.Prelude.{◌≡◌, ℕ, ◌+◌, ◌-◌, ◌^◌, false, [], ◌∷◌, ◌++◌, ℤ, pos, ◌≤ℤ◌}
use Rattle.std.proofs.Common.{refl, arith}
use Rattle.fx_fraction.specs.Fraction.{whole}
use Rattle.fx_fraction.proofs.WholeNumbers.{int_le-pos, int_le-add, int_le-mul_pos, int_mul_not_negative}
use Rattle.fx_routines.specs.declared.operation.ScaledOp.{ScaledOp}
use Rattle.fx_routines.specs.declared.operation.ScaledOp.TheVariants.{Convert, Add, Sub, AbsDiff, Mul, Div}
use Rattle.mfx_scaled.specs.declared.binary_points.Points.{Points}
use Rattle.mfx_scaled.specs.Operations.{scaled_arity}
use Rattle.part_rules.specs.declared.bounds.Bounds.{Bounds}
use Rattle.part_rules.specs.Ranges.{least_among, greatest_among, zero_between}
use Rattle.part_rules.specs.PartRules.{LiesInside}
use Rattle.part_rules.proofs.Within.{whole_within}
use Rattle.part_rules.proofs.CornerHulls.{IsInside, in_hull}
use Rattle.part_rules.proofs.Products.{magnitude_positive}
use Rattle.part_rules.proofs.RangesGrow.{Each, HullInside, AreNarrower, AreInside, hull_inside, hull_grows, corner_values_inside, zero_grows}
use Rattle.part_rules.proofs.ErrorsGrow.{wide_positive, magnitude_grows, shifted_grows, product_grows, quotient_grows, divisor_narrower}
use Rattle.mfx_rules.specs.ScaledRules.{scaled_bounds, scaled_corner_values, scaled_error, scaled_may_divide_by_zero, scaled_rounded, scaled_turning_values, scaled_values, level_points, converted_error, sum_error, highest}
use Rattle.mfx_rules.proofs.ScaledSoundnessProof.{scaled_rules_are_sound}

-- ---- ranges

-- soundness at whole numbers: the value of numbers in wide ranges lies in the rule's range
value_inside : (op : ScaledOp) (points : Points) (narrow wide : ℕ → Bounds) → scaled_may_divide_by_zero op wide ≡ false → AreNarrower (scaled_arity op) narrow wide → (m : ℕ → ℤ) → AreInside (scaled_arity op) wide m → IsInside (scaled_bounds op points wide).lo (scaled_bounds op points wide).hi (scaled_rounded op points m)
value_inside op points narrow wide away n m inside =
    let keeps = scaled_rules_are_sound op points wide m (λ p. whole (m p)) away (λ p l. whole_within (wide p) (m p) (wide_positive (narrow p) (wide p) (n p l)) (inside p l)) in
    record { low = keeps.within.low; high = keeps.within.high }

differences_grow : (points : Points) (narrow wide : ℕ → Bounds) → AreNarrower 2 narrow wide → HullInside (least_among (scaled_corner_values Sub points wide)) (greatest_among (scaled_corner_values Sub points wide)) (scaled_corner_values Sub points narrow)
unfolding scaled_bounds scaled_values
differences_grow points narrow wide n = hull_inside _ _ (scaled_corner_values Sub points narrow) (omega arith) (corner_values_inside 2 (scaled_rounded Sub points) narrow wide _ _ n (value_inside Sub points narrow wide refl n))

distance_zero : (points : Points) (wide : ℕ → Bounds) → zero_between (scaled_corner_values Sub (level_points points) wide) ≡ pos 0 ∷ [] → IsInside (scaled_bounds AbsDiff points wide).lo (scaled_bounds AbsDiff points wide).hi (pos 0)
unfolding scaled_bounds scaled_values
distance_zero points wide e =
    let h = in_hull (scaled_corner_values AbsDiff points wide ++ pos 0 ∷ []) 4 (omega arith) in
    rw e (record { low = h.low; high = h.high })

turning_inside : (op : ScaledOp) (points : Points) (narrow wide : ℕ → Bounds) → AreNarrower (scaled_arity op) narrow wide → Each (IsInside (scaled_bounds op points wide).lo (scaled_bounds op points wide).hi) (scaled_turning_values op points narrow)
turning_inside AbsDiff points narrow wide n = zero_grows _ _ _ (scaled_corner_values Sub (level_points points) wide) (differences_grow (level_points points) narrow wide n) (distance_zero points wide)
turning_inside other points narrow wide n = tt

range_grows : (op : ScaledOp) (points : Points) (narrow wide : ℕ → Bounds) → scaled_may_divide_by_zero op wide ≡ false → AreNarrower (scaled_arity op) narrow wide → HullInside (scaled_bounds op points wide).lo (scaled_bounds op points wide).hi (scaled_values op points narrow)
unfolding scaled_values
range_grows op points narrow wide away n =
    hull_grows (scaled_arity op) (scaled_rounded op points) narrow wide (scaled_turning_values op points narrow) _ _ n (value_inside op points narrow wide away n) (turning_inside op points narrow wide n)

-- ---- errors

converted_grows : (a c : ℕ) (err fel : ℤ) → err ≤ℤ fel → converted_error a c err ≤ℤ converted_error a c fel
converted_grows a c err fel h = shifted_grows (a - c) _ _ (int_le-mul_pos err fel (2 ^ (c - a)) h)

sums_grow : (points : Points) (x y x' y' : ℤ) → x ≤ℤ x' → y ≤ℤ y' → sum_error points x y ≤ℤ sum_error points x' y'
unfolding sum_error
sums_grow points x y x' y' h k = shifted_grows (highest points - points.c) _ _ (int_le-add _ _ _ _ (int_le-mul_pos x x' (2 ^ (highest points - points.a)) h) (int_le-mul_pos y y' (2 ^ (highest points - points.b)) k))

error_grows : (op : ScaledOp) (points : Points) (narrow wide : ℕ → Bounds) → scaled_may_divide_by_zero op wide ≡ false → AreNarrower (scaled_arity op) narrow wide → scaled_error op points narrow ≤ℤ scaled_error op points wide
error_grows Convert points narrow wide away n = converted_grows points.a points.c _ _ (n 0 (omega arith)).inside.error
error_grows Add points narrow wide away n = sums_grow points _ _ _ _ (n 0 (omega arith)).inside.error (n 1 (omega arith)).inside.error
error_grows Sub points narrow wide away n = sums_grow points _ _ _ _ (n 0 (omega arith)).inside.error (n 1 (omega arith)).inside.error
error_grows AbsDiff points narrow wide away n = sums_grow points _ _ _ _ (n 0 (omega arith)).inside.error (n 1 (omega arith)).inside.error
error_grows Mul points narrow wide away n = converted_grows (points.a + points.b) points.c _ _ (product_grows _ _ _ _ (n 0 (omega arith)) (n 1 (omega arith)))
error_grows Div points narrow wide away n =
    let x = n 0 (omega arith) in
    let j = 2 ^ (points.c + points.b - points.a) in
    let p : pos 0 ≤ℤ pos j = int_le-pos _ _ (omega arith) in
    quotient_grows (points.a - (points.c + points.b)) _ _ _ _ _ _ (int_mul_not_negative _ _ (magnitude_positive (narrow 0)) p) (int_le-mul_pos _ _ j (magnitude_grows _ _ x)) (int_mul_not_negative _ _ x.proper.positive p) (int_le-mul_pos _ _ j x.inside.error) (n 1 (omega arith)) away

-- ---- the rule

pub divides_narrower : (op : ScaledOp) (narrow wide : ℕ → Bounds) → AreNarrower (scaled_arity op) narrow wide → scaled_may_divide_by_zero op wide ≡ false → scaled_may_divide_by_zero op narrow ≡ false
divides_narrower Div narrow wide n h = divisor_narrower _ _ (n 1 (omega arith)) h
divides_narrower other narrow wide n h = refl

pub scaled_grows : (op : ScaledOp) (points : Points) (narrow wide : ℕ → Bounds) → scaled_may_divide_by_zero op wide ≡ false → AreNarrower (scaled_arity op) narrow wide → LiesInside (scaled_bounds op points narrow) (scaled_bounds op points wide)
unfolding scaled_bounds
scaled_grows op points narrow wide away n =
    let h = range_grows op points narrow wide away n in
    record { low = h.low; high = h.high; error = error_grows op points narrow wide away n }
