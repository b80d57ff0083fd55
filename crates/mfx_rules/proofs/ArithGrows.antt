-- The rules of arithmetic are monotone: from narrower bounds each gives some where it gives some from wide ones, and these lie
-- inside of those.
use Rattle.std.specs.Prelude.{◌≡◌, ℕ, ◌^◌, false, [], ◌∷◌, ◌++◌, ℤ, pos, ◌≤ℤ◌, IsTrue}
use Rattle.std.proofs.Common.{refl, arith}
use Rattle.std.proofs.lemmas.Int.{ints}
use Rattle.fx_fraction.specs.Fraction.{whole}
use Rattle.fx_fraction.proofs.WholeNumbers.{int_le-pos, int_le-max, int_le-mul_pos, int_mul_not_negative}
use Rattle.fx_core.specs.Rounding.{power}
use Rattle.fx_routines.specs.declared.operation.ArithOp.{ArithOp}
use Rattle.fx_routines.specs.declared.operation.ArithOp.TheVariants.{Add, Sub, AbsDiff, Abs, Mul, Div, Mod, MulDiv, MulShRight, DivShLeft, Limit, Min, Max, RateLimiter}
use Rattle.mfx_arith.specs.Operations.{arith_arity, is_smooth_operation}
use Rattle.part_rules.specs.declared.bounds.Bounds.{Bounds}
use Rattle.part_rules.specs.Ranges.{least_among, greatest_among, zero_between}
use Rattle.part_rules.specs.PartRules.{LiesInside}
use Rattle.part_rules.proofs.Within.{whole_within}
use Rattle.part_rules.proofs.CornerHulls.{IsInside, in_hull}
use Rattle.part_rules.proofs.Products.{magnitude_positive}
use Rattle.part_rules.proofs.RangesGrow.{Each, HullInside, AreNarrower, AreInside, hull_inside, hull_grows, corner_values_inside, ends_grow, zero_grows}
use Rattle.part_rules.proofs.ErrorsGrow.{wide_positive, sum_grows, magnitude_grows, shifted_grows, products_grow, product_grows, product_positive, quotient_grows, divisor_narrower}
use Rattle.mfx_rules.specs.ArithRules.{arith_bounds, arith_corner_values, arith_error, arith_may_divide_by_zero, arith_rounded, arith_values, turning_values}
use Rattle.mfx_rules.specs.ArithSoundness.{HasUnsignedStep}
use Rattle.mfx_rules.proofs.ArithSoundnessProof.{arith_rules_are_sound}

-- ---- ranges

-- soundness at whole numbers: the value of numbers in wide ranges lies in the rule's range
value_inside : (op : ArithOp) → IsTrue (is_smooth_operation op) → (shift : ℕ) (narrow wide : ℕ → Bounds) → arith_may_divide_by_zero op wide ≡ false → HasUnsignedStep op wide → AreNarrower (arith_arity op) narrow wide → (m : ℕ → ℤ) → AreInside (arith_arity op) wide m → IsInside (arith_bounds op shift wide).lo (arith_bounds op shift wide).hi (arith_rounded op shift m)
value_inside op smooth shift narrow wide away step n m inside =
    let keeps = arith_rules_are_sound op smooth shift wide m (λ p. whole (m p)) away step (λ p l. whole_within (wide p) (m p) (wide_positive (narrow p) (wide p) (n p l)) (inside p l)) in
    record { low = keeps.within.low; high = keeps.within.high }

differences_grow : (narrow wide : ℕ → Bounds) → AreNarrower 2 narrow wide → HullInside (least_among (arith_corner_values Sub 0 wide)) (greatest_among (arith_corner_values Sub 0 wide)) (arith_corner_values Sub 0 narrow)
unfolding arith_bounds arith_values
differences_grow narrow wide n = hull_inside _ _ (arith_corner_values Sub 0 narrow) (omega arith) (corner_values_inside 2 (arith_rounded Sub 0) narrow wide _ _ n (value_inside Sub refl 0 narrow wide refl tt n))

distance_zero : (shift : ℕ) (wide : ℕ → Bounds) → zero_between (arith_corner_values Sub 0 wide) ≡ pos 0 ∷ [] → IsInside (arith_bounds AbsDiff shift wide).lo (arith_bounds AbsDiff shift wide).hi (pos 0)
unfolding arith_bounds arith_values
distance_zero shift wide e =
    let h = in_hull (arith_corner_values AbsDiff shift wide ++ pos 0 ∷ []) 4 (omega arith) in
    rw e (record { low = h.low; high = h.high })

absolute_zero : (shift : ℕ) (wide : ℕ → Bounds) → zero_between ((wide 0).lo ∷ (wide 0).hi ∷ []) ≡ pos 0 ∷ [] → IsInside (arith_bounds Abs shift wide).lo (arith_bounds Abs shift wide).hi (pos 0)
unfolding arith_bounds arith_values
absolute_zero shift wide e =
    let h = in_hull (arith_corner_values Abs shift wide ++ pos 0 ∷ []) 2 (omega arith) in
    rw e (record { low = h.low; high = h.high })

turning_inside : (op : ArithOp) (shift : ℕ) (narrow wide : ℕ → Bounds) → AreNarrower (arith_arity op) narrow wide → Each (IsInside (arith_bounds op shift wide).lo (arith_bounds op shift wide).hi) (turning_values op narrow)
turning_inside AbsDiff shift narrow wide n = zero_grows _ _ _ (arith_corner_values Sub 0 wide) (differences_grow narrow wide n) (distance_zero shift wide)
turning_inside Abs shift narrow wide n = zero_grows _ _ _ ((wide 0).lo ∷ (wide 0).hi ∷ []) (ends_grow _ _ (n 0 (omega arith))) (absolute_zero shift wide)
turning_inside other shift narrow wide n = tt

range_grows : (op : ArithOp) → IsTrue (is_smooth_operation op) → (shift : ℕ) (narrow wide : ℕ → Bounds) → arith_may_divide_by_zero op wide ≡ false → HasUnsignedStep op wide → AreNarrower (arith_arity op) narrow wide → HullInside (arith_bounds op shift wide).lo (arith_bounds op shift wide).hi (arith_values op shift narrow)
unfolding arith_values
range_grows op smooth shift narrow wide away step n =
    hull_grows (arith_arity op) (arith_rounded op shift) narrow wide (turning_values op narrow) _ _ n (value_inside op smooth shift narrow wide away step n) (turning_inside op shift narrow wide n)

-- ---- errors

error_grows : (op : ArithOp) (shift : ℕ) (narrow wide : ℕ → Bounds) → arith_may_divide_by_zero op wide ≡ false → AreNarrower (arith_arity op) narrow wide → arith_error op shift narrow ≤ℤ arith_error op shift wide
error_grows Add shift narrow wide away n = sum_grows _ _ _ _ (n 0 (omega arith)) (n 1 (omega arith))
error_grows Sub shift narrow wide away n = sum_grows _ _ _ _ (n 0 (omega arith)) (n 1 (omega arith))
error_grows AbsDiff shift narrow wide away n = sum_grows _ _ _ _ (n 0 (omega arith)) (n 1 (omega arith))
error_grows Abs shift narrow wide away n = (n 0 (omega arith)).inside.error
error_grows Mul shift narrow wide away n = product_grows _ _ _ _ (n 0 (omega arith)) (n 1 (omega arith))
error_grows MulShRight shift narrow wide away n = shifted_grows shift _ _ (product_grows _ _ _ _ (n 0 (omega arith)) (n 1 (omega arith)))
error_grows Div shift narrow wide away n =
    let x = n 0 (omega arith) in
    quotient_grows 0 _ _ _ _ _ _ (magnitude_positive (narrow 0)) (magnitude_grows _ _ x) x.proper.positive x.inside.error (n 1 (omega arith)) away
error_grows DivShLeft shift narrow wide away n =
    let x = n 0 (omega arith) in
    let p : pos 0 ≤ℤ power shift = int_le-pos _ _ (omega arith) in
    quotient_grows 0 _ _ _ _ _ _ (int_mul_not_negative _ _ (magnitude_positive (narrow 0)) p) (int_le-mul_pos _ _ (2 ^ shift) (magnitude_grows _ _ x)) (int_mul_not_negative _ _ x.proper.positive p) (int_le-mul_pos _ _ (2 ^ shift) x.inside.error) (n 1 (omega arith)) away
error_grows MulDiv shift narrow wide away n =
    let x = n 0 (omega arith) in
    let y = n 1 (omega arith) in
    quotient_grows 0 _ _ _ _ _ _ (int_mul_not_negative _ _ (magnitude_positive (narrow 0)) (magnitude_positive (narrow 1))) (products_grow _ _ _ _ (magnitude_positive (wide 0)) (magnitude_positive (narrow 1)) (magnitude_grows _ _ x) (magnitude_grows _ _ y)) (product_positive _ _ x.proper.positive y.proper.positive) (product_grows _ _ _ _ x y) (n 2 (omega arith)) away
error_grows Limit shift narrow wide away n = int_le-max _ _ _ _ (int_le-max _ _ _ _ (n 0 (omega arith)).inside.error (n 1 (omega arith)).inside.error) (n 2 (omega arith)).inside.error
error_grows Min shift narrow wide away n = int_le-max _ _ _ _ (n 0 (omega arith)).inside.error (n 1 (omega arith)).inside.error
error_grows Max shift narrow wide away n = int_le-max _ _ _ _ (n 0 (omega arith)).inside.error (n 1 (omega arith)).inside.error
error_grows RateLimiter shift narrow wide away n = int_le-max _ _ _ _ (n 0 (omega arith)).inside.error (sum_grows _ _ _ _ (n 1 (omega arith)) (n 2 (omega arith)))
error_grows Mod shift narrow wide away n = omega (arith, ints)

-- ---- the rule

pub divides_narrower : (op : ArithOp) (narrow wide : ℕ → Bounds) → AreNarrower (arith_arity op) narrow wide → arith_may_divide_by_zero op wide ≡ false → arith_may_divide_by_zero op narrow ≡ false
divides_narrower Div narrow wide n h = divisor_narrower _ _ (n 1 (omega arith)) h
divides_narrower DivShLeft narrow wide n h = divisor_narrower _ _ (n 1 (omega arith)) h
divides_narrower MulDiv narrow wide n h = divisor_narrower _ _ (n 2 (omega arith)) h
divides_narrower other narrow wide n h = refl

bounds_inside : (op : ArithOp) (shift : ℕ) (narrow wide : ℕ → Bounds) → HullInside (arith_bounds op shift wide).lo (arith_bounds op shift wide).hi (arith_values op shift narrow) → arith_error op shift narrow ≤ℤ arith_error op shift wide → LiesInside (arith_bounds op shift narrow) (arith_bounds op shift wide)
unfolding arith_bounds
bounds_inside op shift narrow wide h e = record { low = h.low; high = h.high; error = e }

pub arith_grows : (op : ArithOp) → IsTrue (is_smooth_operation op) → (shift : ℕ) (narrow wide : ℕ → Bounds) → arith_may_divide_by_zero op wide ≡ false → HasUnsignedStep op wide → AreNarrower (arith_arity op) narrow wide → LiesInside (arith_bounds op shift narrow) (arith_bounds op shift wide)
arith_grows op smooth shift narrow wide away step n =
    bounds_inside op shift narrow wide (range_grows op smooth shift narrow wide away step n) (error_grows op shift narrow wide away n)
