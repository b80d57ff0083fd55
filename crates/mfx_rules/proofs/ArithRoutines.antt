-- The rule of each operation of arithmetic is sound. One lemma for each, after its hull and its error.
use Rattle.std.specs.Prelude.{◌≡◌, ℕ, ◌<◌, ◌≤◌, Bool, true, false, ◌&&◌, List, [], ◌∷◌, length, get_or, ℤ, pos, ◌+ℤ◌, ◌-ℤ◌, ◌*ℤ◌, ◌≤ℤ◌, ◌^◌, unsigned_abs, int_le, int_div, if◌then◌else◌}
use Rattle.std.specs.Int.{int_min, int_max}
use Rattle.std.proofs.Common.{refl, sym, ap, ◌∙◌, subst, arith, mul-le-mul, mul-le-mul_right}
use Rattle.std.proofs.lemmas.Bool.Decides.{nat_tests}
use Rattle.std.proofs.lemmas.Int.{ints, clamps}
use Rattle.std.proofs.lemmas.Nat.{pow_pos}
use Rattle.fx_fraction.specs.Fraction.{Fraction, whole, over, plus, minus, times, divided, lesser, greater, absolute, distance, is_zero, AtMost}
use Rattle.fx_fraction.proofs.WholeNumbers.{int_le_trans, int_le-sub, int_le-pos, int_mul_not_negative, unsigned_abs-mul, unsigned_abs-mul_pos}
use Rattle.fx_core.specs.declared.quotient.Mode.TheVariants.{Zero}
use Rattle.fx_core.specs.Rounding.{power}
use Rattle.fx_core.specs.Values.{rounded_fraction}
use Rattle.fx_routines.specs.declared.operation.ArithOp.{ArithOp}
use Rattle.fx_routines.specs.declared.operation.ArithOp.TheVariants.{Add, Sub, AbsDiff, Abs, Mul, Div, MulDiv, MulShRight, DivShLeft, Limit, Min, Max, RateLimiter}
use Rattle.mfx_arith.specs.Formulas.{arith_formula}
use Rattle.mfx_arith.proofs.WholeNumbers.{plus-whole, minus-whole, absolute-whole, times-whole, lesser-whole, greater-whole}
use Rattle.part_rules.specs.declared.bounds.Bounds.{Bounds}
use Rattle.part_rules.specs.Within.{IsWithin}
use Rattle.part_rules.specs.Ranges.{least_among, greatest_among, zero_between}
use Rattle.mfx_rules.specs.ArithRules.{arith_bounds, arith_values, arith_rounded, arith_error}
use Rattle.part_rules.specs.Errors.{magnitude, may_be_zero, product_error}
use Rattle.mfx_rules.specs.ArithSoundness.{AreWithin, KeepsRule}
use Rattle.part_rules.proofs.Hulls.{IsInHull}
use Rattle.part_rules.proofs.CornerHulls.{IsInside, in_hull, hull_of_corners, hull_of_three_corners, absolute_in_hull}
use Rattle.mfx_rules.proofs.ArithValues.{abs_diff-whole, limit-whole, rate_limiter-whole, rounded-whole, sum_first, sum_second, difference_first, difference_second, lesser_first, lesser_second, greater_first, greater_second, limit_first, limit_second, limit_third, rate_limiter_first, rate_limiter_second, rate_limiter_third, product_first, product_second, rounded-divided}
use Rattle.part_rules.proofs.Products.{near_product, within_magnitude, magnitude_positive}
use Rattle.part_rules.proofs.Divisors.{stays_away}
use Rattle.part_rules.proofs.Quotients.{divides, near_shifted, near_scaled}
use Rattle.part_rules.proofs.QuotientValues.{int_div-error, between_quotients, quotient_first, quotient_second, one_sided_divisor}
use Rattle.part_rules.proofs.Nearness.{Near, near_wider, near_plus, near_minus, near_absolute, near_lesser, near_greater}

-- ---- what is known of an argument

pub inside : (b : Bounds) (m : ℤ) (e : Fraction) → IsWithin b m e → IsInside b.lo b.hi m
inside b m e w = record { low = w.low; high = w.high }

pub near : (b : Bounds) (m : ℤ) (e : Fraction) → IsWithin b m e → Near (whole m) e b.err
near b m e w = record { near = w.near }

-- ---- operations that need no rounding: their value at whole numbers is a whole number

record IsExact (op : ArithOp) (shift : ℕ) (given : ℕ → Bounds) (m : ℕ → ℤ) (e : ℕ → Fraction) (z : ℤ) : Type 0 where
  value : arith_formula op shift (λ p. whole (m p)) ≡ whole z
  hull : IsInHull (arith_values op shift given) (arith_rounded op shift m)
  error : Near (arith_formula op shift (λ p. whole (m p))) (arith_formula op shift e) (arith_error op shift given)

exact_within : (op : ArithOp) (shift : ℕ) (given : ℕ → Bounds) (m : ℕ → ℤ) (e : ℕ → Fraction) (z : ℤ) → IsExact op shift given m e z → IsWithin (arith_bounds op shift given) (arith_rounded op shift m) (arith_formula op shift e)
unfolding arith_bounds
exact_within op shift given m e z x =
    let same : arith_formula op shift (λ p. whole (m p)) ≡ whole (arith_rounded op shift m) = x.value ∙ ap whole (sym (rounded-whole _ z x.value)) in
    record {
      low = x.hull.low;
      high = x.hull.high;
      near = subst (λ (f : Fraction). AtMost (distance f (arith_formula op shift e)) (over (arith_error op shift given) 65536)) same x.error.near;
    }

-- ---- sums, differences and absolute values

pub add_keeps : (shift : ℕ) (given : ℕ → Bounds) (m : ℕ → ℤ) (e : ℕ → Fraction) → AreWithin Add given m e → KeepsRule Add shift given m e
unfolding arith_values
add_keeps shift given m e w =
    let x = w 0 (omega arith) in
    let y = w 1 (omega arith) in
    record {
      machine_divides = tt;
      exact_divides = tt;
      within = exact_within Add shift given m e (m 0 +ℤ m 1) (record {
        value = plus-whole (m 0) (m 1);
        hull = hull_of_corners (λ s t. rounded_fraction Zero (plus (whole s) (whole t))) (λ s t. s +ℤ t) _ _ _ _ [] (λ s t i j. rounded-whole _ _ (plus-whole s t)) (λ t j. sum_first t _ _) (λ s i. sum_second s _ _) (m 0) (m 1) (inside _ _ _ x) (inside _ _ _ y);
        error = near_plus _ _ _ _ _ _ (near _ _ _ x) (near _ _ _ y);
      });
    }

pub sub_keeps : (shift : ℕ) (given : ℕ → Bounds) (m : ℕ → ℤ) (e : ℕ → Fraction) → AreWithin Sub given m e → KeepsRule Sub shift given m e
unfolding arith_values
sub_keeps shift given m e w =
    let x = w 0 (omega arith) in
    let y = w 1 (omega arith) in
    record {
      machine_divides = tt;
      exact_divides = tt;
      within = exact_within Sub shift given m e (m 0 -ℤ m 1) (record {
        value = minus-whole (m 0) (m 1);
        hull = hull_of_corners (λ s t. rounded_fraction Zero (minus (whole s) (whole t))) (λ s t. s -ℤ t) _ _ _ _ [] (λ s t i j. rounded-whole _ _ (minus-whole s t)) (λ t j. difference_first t _ _) (λ s i. difference_second s _ _) (m 0) (m 1) (inside _ _ _ x) (inside _ _ _ y);
        error = near_minus _ _ _ _ _ _ (near _ _ _ x) (near _ _ _ y);
      });
    }

-- 0 is among the values where it lies between the least and the greatest
zero_case : (l h : ℤ) (s t : Bool) → int_le l (pos 0) ≡ s → int_le (pos 0) h ≡ t → l ≤ℤ pos 0 → pos 0 ≤ℤ h → (if s && t then pos 0 ∷ [] else []) ≡ pos 0 ∷ []
zero_case l h true true e f p q = refl
zero_case l h false t e f p q = absurd (omega (arith, ints, e, p))
zero_case l h true false e f p q = absurd (omega (arith, ints, f, q))

pub zero_there : (vs : List ℤ) (i k : ℕ) → i < length vs → k < length vs → get_or vs i (pos 0) ≤ℤ pos 0 → pos 0 ≤ℤ get_or vs k (pos 0) → zero_between vs ≡ pos 0 ∷ []
zero_there vs i k p q low high = zero_case (least_among vs) (greatest_among vs) _ _ refl refl (int_le_trans _ _ _ (in_hull vs i p).low low) (int_le_trans _ _ _ high (in_hull vs k q).high)

absolute_difference : ℤ → ℤ → ℤ
absolute_difference x y = rounded_fraction Zero (absolute (minus (whole x) (whole y)))

absolute_difference_at : (x y : ℤ) → absolute_difference x y ≡ pos (unsigned_abs (x -ℤ y))
unfolding absolute_difference
absolute_difference_at x y = rounded-whole _ _ (abs_diff-whole x y)

difference_at : (x y : ℤ) → rounded_fraction Zero (minus (whole x) (whole y)) ≡ x -ℤ y
difference_at x y = rounded-whole _ _ (minus-whole x y)

-- the differences at the corners
abbrev differences : ℤ → ℤ → ℤ → ℤ → List ℤ
differences a b c d = rounded_fraction Zero (minus (whole a) (whole c)) ∷ rounded_fraction Zero (minus (whole a) (whole d)) ∷ rounded_fraction Zero (minus (whole b) (whole c)) ∷ rounded_fraction Zero (minus (whole b) (whole d)) ∷ []

abs_diff_hull : (a b c d x y : ℤ) → IsInside a b x → IsInside c d y → IsInHull (absolute_difference a c ∷ absolute_difference a d ∷ absolute_difference b c ∷ absolute_difference b d ∷ zero_between (differences a b c d)) (absolute_difference x y)
abs_diff_hull a b c d x y i j =
    let vs = absolute_difference a c ∷ absolute_difference a d ∷ absolute_difference b c ∷ absolute_difference b d ∷ zero_between (differences a b c d) in
    let low : (a -ℤ d) ≤ℤ (x -ℤ y) = int_le-sub a x d y i.low j.high in
    let high : (x -ℤ y) ≤ℤ (b -ℤ c) = int_le-sub x b y c i.high j.low in
    let at_least : IsInHull vs (pos (unsigned_abs (a -ℤ d))) = subst (IsInHull vs) (absolute_difference_at a d) (in_hull vs 1 (omega arith)) in
    let at_greatest : IsInHull vs (pos (unsigned_abs (b -ℤ c))) = subst (IsInHull vs) (absolute_difference_at b c) (in_hull vs 2 (omega arith)) in
    let at_zero : (a -ℤ d) ≤ℤ pos 0 → pos 0 ≤ℤ (b -ℤ c) → IsInHull vs (pos 0) = λ p q. subst (λ ws. IsInHull (absolute_difference a c ∷ absolute_difference a d ∷ absolute_difference b c ∷ absolute_difference b d ∷ ws) (pos 0)) (sym (zero_there (differences a b c d) 1 2 (omega arith) (omega arith) (rw (difference_at a d) p) (rw (difference_at b c) q))) (in_hull (absolute_difference a c ∷ absolute_difference a d ∷ absolute_difference b c ∷ absolute_difference b d ∷ pos 0 ∷ []) 4 (omega arith)) in
    rw (absolute_difference_at x y) (absolute_in_hull vs (a -ℤ d) (x -ℤ y) (b -ℤ c) low high at_least at_greatest at_zero)

pub abs_diff_keeps : (shift : ℕ) (given : ℕ → Bounds) (m : ℕ → ℤ) (e : ℕ → Fraction) → AreWithin AbsDiff given m e → KeepsRule AbsDiff shift given m e
unfolding arith_values absolute_difference
abs_diff_keeps shift given m e w =
    let x = w 0 (omega arith) in
    let y = w 1 (omega arith) in
    record {
      machine_divides = tt;
      exact_divides = tt;
      within = exact_within AbsDiff shift given m e (pos (unsigned_abs (m 0 -ℤ m 1))) (record {
        value = abs_diff-whole (m 0) (m 1);
        hull = abs_diff_hull _ _ _ _ (m 0) (m 1) (inside _ _ _ x) (inside _ _ _ y);
        error = near_absolute _ _ _ (near_minus _ _ _ _ _ _ (near _ _ _ x) (near _ _ _ y));
      });
    }

absolute_value : ℤ → ℤ
absolute_value x = rounded_fraction Zero (absolute (whole x))

absolute_value_at : (x : ℤ) → absolute_value x ≡ pos (unsigned_abs x)
unfolding absolute_value
absolute_value_at x = rounded-whole _ _ (absolute-whole x)

abs_hull : (a b x : ℤ) → IsInside a b x → IsInHull (absolute_value a ∷ absolute_value b ∷ zero_between (a ∷ b ∷ [])) (absolute_value x)
abs_hull a b x i =
    let vs = absolute_value a ∷ absolute_value b ∷ zero_between (a ∷ b ∷ []) in
    let at_least : IsInHull vs (pos (unsigned_abs a)) = subst (IsInHull vs) (absolute_value_at a) (in_hull vs 0 (omega arith)) in
    let at_greatest : IsInHull vs (pos (unsigned_abs b)) = subst (IsInHull vs) (absolute_value_at b) (in_hull vs 1 (omega arith)) in
    let at_zero : a ≤ℤ pos 0 → pos 0 ≤ℤ b → IsInHull vs (pos 0) = λ p q. subst (λ ws. IsInHull (absolute_value a ∷ absolute_value b ∷ ws) (pos 0)) (sym (zero_there (a ∷ b ∷ []) 0 1 (omega arith) (omega arith) p q)) (in_hull (absolute_value a ∷ absolute_value b ∷ pos 0 ∷ []) 2 (omega arith)) in
    rw (absolute_value_at x) (absolute_in_hull vs a x b i.low i.high at_least at_greatest at_zero)

pub abs_keeps : (shift : ℕ) (given : ℕ → Bounds) (m : ℕ → ℤ) (e : ℕ → Fraction) → AreWithin Abs given m e → KeepsRule Abs shift given m e
unfolding arith_values absolute_value
abs_keeps shift given m e w =
    let x = w 0 (omega arith) in
    record {
      machine_divides = tt;
      exact_divides = tt;
      within = exact_within Abs shift given m e (pos (unsigned_abs (m 0))) (record {
        value = absolute-whole (m 0);
        hull = abs_hull _ _ (m 0) (inside _ _ _ x);
        error = near_absolute _ _ _ (near _ _ _ x);
      });
    }

-- ---- limits

pub min_keeps : (shift : ℕ) (given : ℕ → Bounds) (m : ℕ → ℤ) (e : ℕ → Fraction) → AreWithin Min given m e → KeepsRule Min shift given m e
unfolding arith_values
min_keeps shift given m e w =
    let x = w 0 (omega arith) in
    let y = w 1 (omega arith) in
    record {
      machine_divides = tt;
      exact_divides = tt;
      within = exact_within Min shift given m e (int_min (m 0) (m 1)) (record {
        value = lesser-whole (m 0) (m 1);
        hull = hull_of_corners (λ s t. rounded_fraction Zero (lesser (whole s) (whole t))) int_min _ _ _ _ [] (λ s t i j. rounded-whole _ _ (lesser-whole s t)) (λ t j. lesser_first t _ _) (λ s i. lesser_second s _ _) (m 0) (m 1) (inside _ _ _ x) (inside _ _ _ y);
        error = near_lesser _ _ _ _ _ _ (near _ _ _ x) (near _ _ _ y);
      });
    }

pub max_keeps : (shift : ℕ) (given : ℕ → Bounds) (m : ℕ → ℤ) (e : ℕ → Fraction) → AreWithin Max given m e → KeepsRule Max shift given m e
unfolding arith_values
max_keeps shift given m e w =
    let x = w 0 (omega arith) in
    let y = w 1 (omega arith) in
    record {
      machine_divides = tt;
      exact_divides = tt;
      within = exact_within Max shift given m e (int_max (m 0) (m 1)) (record {
        value = greater-whole (m 0) (m 1);
        hull = hull_of_corners (λ s t. rounded_fraction Zero (greater (whole s) (whole t))) int_max _ _ _ _ [] (λ s t i j. rounded-whole _ _ (greater-whole s t)) (λ t j. greater_first t _ _) (λ s i. greater_second s _ _) (m 0) (m 1) (inside _ _ _ x) (inside _ _ _ y);
        error = near_greater _ _ _ _ _ _ (near _ _ _ x) (near _ _ _ y);
      });
    }

-- the greatest of three errors, in the order of the formula and in that of the arguments
limit_error : (p q r : ℤ) → int_max r (int_max q p) ≤ℤ int_max (int_max p q) r
limit_error p q r = omega (arith, ints, clamps)

pub limit_keeps : (shift : ℕ) (given : ℕ → Bounds) (m : ℕ → ℤ) (e : ℕ → Fraction) → AreWithin Limit given m e → KeepsRule Limit shift given m e
unfolding arith_values
limit_keeps shift given m e w =
    let x = w 0 (omega arith) in
    let y = w 1 (omega arith) in
    let z = w 2 (omega arith) in
    record {
      machine_divides = tt;
      exact_divides = tt;
      within = exact_within Limit shift given m e (int_min (m 2) (int_max (m 1) (m 0))) (record {
        value = limit-whole (m 0) (m 1) (m 2);
        hull = hull_of_three_corners (λ s t u. rounded_fraction Zero (lesser (whole u) (greater (whole t) (whole s)))) (λ s t u. int_min u (int_max t s)) _ _ _ _ _ _ (λ s t u i j k. rounded-whole _ _ (limit-whole s t u)) (λ t u j k. limit_first t u _ _) (λ s u i k. limit_second s u _ _) (λ s t i j. limit_third s t _ _) (m 0) (m 1) (m 2) (inside _ _ _ x) (inside _ _ _ y) (inside _ _ _ z);
        error = near_wider _ _ _ _ (limit_error (given 0).err (given 1).err (given 2).err) (near_lesser _ _ _ _ _ _ (near _ _ _ z) (near_greater _ _ _ _ _ _ (near _ _ _ y) (near _ _ _ x)));
      });
    }

rate_limiter_error : (p q r : ℤ) → int_max (q +ℤ r) (int_max (q +ℤ r) p) ≤ℤ int_max p (q +ℤ r)
rate_limiter_error p q r = omega (arith, ints, clamps)

pub rate_limiter_keeps : (shift : ℕ) (given : ℕ → Bounds) (m : ℕ → ℤ) (e : ℕ → Fraction) → pos 0 ≤ℤ (given 2).lo → AreWithin RateLimiter given m e → KeepsRule RateLimiter shift given m e
unfolding arith_values
rate_limiter_keeps shift given m e step w =
    let x = w 0 (omega arith) in
    let y = w 1 (omega arith) in
    let z = w 2 (omega arith) in
    record {
      machine_divides = tt;
      exact_divides = tt;
      within = exact_within RateLimiter shift given m e (int_min (m 1 +ℤ m 2) (int_max (m 1 -ℤ m 2) (m 0))) (record {
        value = rate_limiter-whole (m 0) (m 1) (m 2);
        hull = hull_of_three_corners (λ s t u. rounded_fraction Zero (lesser (plus (whole t) (whole u)) (greater (minus (whole t) (whole u)) (whole s)))) (λ s t u. int_min (t +ℤ u) (int_max (t -ℤ u) s)) _ _ _ _ _ _ (λ s t u i j k. rounded-whole _ _ (rate_limiter-whole s t u)) (λ t u j k. rate_limiter_first t u _ _) (λ s u i k. rate_limiter_second s u _ _) (λ s t i j. rate_limiter_third s t _ _ step) (m 0) (m 1) (m 2) (inside _ _ _ x) (inside _ _ _ y) (inside _ _ _ z);
        error = near_wider _ _ _ _ (rate_limiter_error (given 0).err (given 1).err (given 2).err) (near_lesser _ _ _ _ _ _ (near_plus _ _ _ _ _ _ (near _ _ _ y) (near _ _ _ z)) (near_greater _ _ _ _ _ _ (near_minus _ _ _ _ _ _ (near _ _ _ y) (near _ _ _ z)) (near _ _ _ x)));
      });
    }

-- ---- products

pub mul_keeps : (shift : ℕ) (given : ℕ → Bounds) (m : ℕ → ℤ) (e : ℕ → Fraction) → AreWithin Mul given m e → KeepsRule Mul shift given m e
unfolding arith_values
mul_keeps shift given m e w =
    let x = w 0 (omega arith) in
    let y = w 1 (omega arith) in
    record {
      machine_divides = tt;
      exact_divides = tt;
      within = exact_within Mul shift given m e (m 0 *ℤ m 1) (record {
        value = times-whole (m 0) (m 1);
        hull = hull_of_corners (λ s t. rounded_fraction Zero (times (whole s) (whole t))) (λ s t. s *ℤ t) _ _ _ _ [] (λ s t i j. rounded-whole _ _ (times-whole s t)) (λ t j. product_first t _ _) (λ s i. product_second s _ _) (m 0) (m 1) (inside _ _ _ x) (inside _ _ _ y);
        error = subst (λ f. Near f (times (e 0) (e 1)) (product_error (given 0) (given 1))) (sym (times-whole (m 0) (m 1))) (near_product (given 0) (given 1) (m 0) (m 1) (e 0) (e 1) x y);
      });
    }

-- ---- operations that round

record IsRounded (op : ArithOp) (shift : ℕ) (given : ℕ → Bounds) (m : ℕ → ℤ) (e : ℕ → Fraction) (z : ℤ) : Type 0 where
  value : arith_rounded op shift m ≡ z
  hull : IsInHull (arith_values op shift given) (arith_rounded op shift m)
  error : Near (whole z) (arith_formula op shift e) (arith_error op shift given)

rounded_within : (op : ArithOp) (shift : ℕ) (given : ℕ → Bounds) (m : ℕ → ℤ) (e : ℕ → Fraction) (z : ℤ) → IsRounded op shift given m e z → IsWithin (arith_bounds op shift given) (arith_rounded op shift m) (arith_formula op shift e)
unfolding arith_bounds
rounded_within op shift given m e z x = record {
  low = x.hull.low;
  high = x.hull.high;
  near = subst (λ v. AtMost (distance (whole v) (arith_formula op shift e)) (over (arith_error op shift given) 65536)) (sym x.value) x.error.near;
}

-- a product over two to a power
product_shifted : (shift : ℕ) (x y : ℤ) → rounded_fraction Zero (divided (times (whole x) (whole y)) (whole (power shift))) ≡ int_div (x *ℤ y) (power shift)
product_shifted shift x y = rounded-divided _ (x *ℤ y) (power shift) (times-whole x y) (pow_pos shift)

pub mul_sh_right_keeps : (shift : ℕ) (given : ℕ → Bounds) (m : ℕ → ℤ) (e : ℕ → Fraction) → AreWithin MulShRight given m e → KeepsRule MulShRight shift given m e
unfolding arith_values
mul_sh_right_keeps shift given m e w =
    let x = w 0 (omega arith) in
    let y = w 1 (omega arith) in
    record {
      machine_divides = tt;
      exact_divides = tt;
      within = rounded_within MulShRight shift given m e (int_div (m 0 *ℤ m 1) (power shift)) (record {
        value = product_shifted shift (m 0) (m 1);
        hull = hull_of_corners (λ s t. rounded_fraction Zero (divided (times (whole s) (whole t)) (whole (power shift)))) (λ s t. int_div (s *ℤ t) (power shift)) _ _ _ _ [] (λ s t i j. product_shifted shift s t) (λ t j s i. between_quotients (power shift) _ _ _ (pow_pos shift) (product_first t _ _ s i)) (λ s i t j. between_quotients (power shift) _ _ _ (pow_pos shift) (product_second s _ _ t j)) (m 0) (m 1) (inside _ _ _ x) (inside _ _ _ y);
        error = near_shifted shift (m 0 *ℤ m 1) (product_error (given 0) (given 1)) (times (e 0) (e 1)) (near_product (given 0) (given 1) (m 0) (m 1) (e 0) (e 1) x y);
      });
    }

-- ---- quotients

pub not_zero : (n : ℤ) → 1 ≤ unsigned_abs n → is_zero (whole n) ≡ false
unfolding is_zero whole
not_zero n h = grind (arith, nat_tests)

-- the divisor in the machine
pub machine_divisor : (y : Bounds) (n : ℤ) (f : Fraction) → may_be_zero y ≡ false → IsWithin y n f → 1 ≤ unsigned_abs n
machine_divisor y n f away w = one_sided_divisor y.lo y.hi n (stays_away y away).side (inside y n f w)

pub div_keeps : (shift : ℕ) (given : ℕ → Bounds) (m : ℕ → ℤ) (e : ℕ → Fraction) → may_be_zero (given 1) ≡ false → AreWithin Div given m e → KeepsRule Div shift given m e
unfolding arith_values
div_keeps shift given m e away w =
    let x = w 0 (omega arith) in
    let y = w 1 (omega arith) in
    let side = (stays_away (given 1) away).side in
    let some : 1 ≤ unsigned_abs (m 1) = machine_divisor (given 1) (m 1) (e 1) away y in
    let d = divides (m 0) (m 1) (e 0) (e 1) (magnitude (given 0)) (given 0).err (given 1) (magnitude_positive (given 0)) (within_magnitude (given 0) (m 0) (e 0) x) (near _ _ _ x) y away in
    record {
      machine_divides = not_zero (m 1) some;
      exact_divides = d.divisor;
      within = rounded_within Div shift given m e (int_div (m 0) (m 1)) (record {
        value = rounded-divided _ (m 0) (m 1) refl some;
        hull = hull_of_corners (λ s t. rounded_fraction Zero (divided (whole s) (whole t))) int_div _ _ _ _ [] (λ s t i j. rounded-divided _ s t refl (one_sided_divisor _ _ t side j)) (λ t j. quotient_first t _ _ (one_sided_divisor _ _ t side j)) (λ s i. quotient_second s _ _ side) (m 0) (m 1) (inside _ _ _ x) (inside _ _ _ y);
        error = d.near (int_div (m 0) (m 1)) (int_div-error (m 0) (m 1) some);
      });
    }

-- a dividend that is shifted to the left
shifted_over : (shift : ℕ) (x y : ℤ) → 1 ≤ unsigned_abs y → rounded_fraction Zero (divided (times (whole x) (whole (power shift))) (whole y)) ≡ int_div (x *ℤ power shift) y
shifted_over shift x y some = rounded-divided _ (x *ℤ power shift) y (times-whole x (power shift)) some

pub shifted_magnitude : (b : Bounds) (m : ℤ) (k : ℕ) → unsigned_abs m ≤ unsigned_abs (magnitude b) → unsigned_abs (m *ℤ pos k) ≤ unsigned_abs (magnitude b *ℤ pos k)
shifted_magnitude b m k h = rw (unsigned_abs-mul_pos m k, unsigned_abs-mul_pos (magnitude b) k) (mul-le-mul_right k h)

pub div_sh_left_keeps : (shift : ℕ) (given : ℕ → Bounds) (m : ℕ → ℤ) (e : ℕ → Fraction) → may_be_zero (given 1) ≡ false → AreWithin DivShLeft given m e → KeepsRule DivShLeft shift given m e
unfolding arith_values
div_sh_left_keeps shift given m e away w =
    let x = w 0 (omega arith) in
    let y = w 1 (omega arith) in
    let side = (stays_away (given 1) away).side in
    let some : 1 ≤ unsigned_abs (m 1) = machine_divisor (given 1) (m 1) (e 1) away y in
    let top : pos 0 ≤ℤ (magnitude (given 0) *ℤ power shift) = int_mul_not_negative _ _ (magnitude_positive (given 0)) (int_le-pos _ _ (omega arith)) in
    let size = shifted_magnitude (given 0) (m 0) (2 ^ shift) (within_magnitude (given 0) (m 0) (e 0) x) in
    let d = divides (m 0 *ℤ power shift) (m 1) (times (e 0) (whole (power shift))) (e 1) (magnitude (given 0) *ℤ power shift) ((given 0).err *ℤ power shift) (given 1) top size (near_scaled (2 ^ shift) (m 0) (given 0).err (e 0) (near _ _ _ x)) y away in
    record {
      machine_divides = not_zero (m 1) some;
      exact_divides = d.divisor;
      within = rounded_within DivShLeft shift given m e (int_div (m 0 *ℤ power shift) (m 1)) (record {
        value = shifted_over shift (m 0) (m 1) some;
        hull = hull_of_corners (λ s t. rounded_fraction Zero (divided (times (whole s) (whole (power shift))) (whole t))) (λ s t. int_div (s *ℤ power shift) t) _ _ _ _ [] (λ s t i j. shifted_over shift s t (one_sided_divisor _ _ t side j)) (λ t j s i. between_quotients t _ _ _ (one_sided_divisor _ _ t side j) (product_first (power shift) _ _ s i)) (λ s i. quotient_second (s *ℤ power shift) _ _ side) (m 0) (m 1) (inside _ _ _ x) (inside _ _ _ y);
        error = d.near (int_div (m 0 *ℤ power shift) (m 1)) (int_div-error (m 0 *ℤ power shift) (m 1) some);
      });
    }

-- a product over a third
product_over : (x y z : ℤ) → 1 ≤ unsigned_abs z → rounded_fraction Zero (divided (times (whole x) (whole y)) (whole z)) ≡ int_div (x *ℤ y) z
product_over x y z some = rounded-divided _ (x *ℤ y) z (times-whole x y) some

product_magnitude : (a b : Bounds) (m n : ℤ) → unsigned_abs m ≤ unsigned_abs (magnitude a) → unsigned_abs n ≤ unsigned_abs (magnitude b) → unsigned_abs (m *ℤ n) ≤ unsigned_abs (magnitude a *ℤ magnitude b)
product_magnitude a b m n h k = rw (unsigned_abs-mul m n, unsigned_abs-mul (magnitude a) (magnitude b)) (mul-le-mul h k)

pub mul_div_keeps : (shift : ℕ) (given : ℕ → Bounds) (m : ℕ → ℤ) (e : ℕ → Fraction) → may_be_zero (given 2) ≡ false → AreWithin MulDiv given m e → KeepsRule MulDiv shift given m e
unfolding arith_values
mul_div_keeps shift given m e away w =
    let x = w 0 (omega arith) in
    let y = w 1 (omega arith) in
    let z = w 2 (omega arith) in
    let side = (stays_away (given 2) away).side in
    let some : 1 ≤ unsigned_abs (m 2) = machine_divisor (given 2) (m 2) (e 2) away z in
    let top : pos 0 ≤ℤ (magnitude (given 0) *ℤ magnitude (given 1)) = int_mul_not_negative _ _ (magnitude_positive (given 0)) (magnitude_positive (given 1)) in
    let size = product_magnitude (given 0) (given 1) (m 0) (m 1) (within_magnitude (given 0) (m 0) (e 0) x) (within_magnitude (given 1) (m 1) (e 1) y) in
    let d = divides (m 0 *ℤ m 1) (m 2) (times (e 0) (e 1)) (e 2) (magnitude (given 0) *ℤ magnitude (given 1)) (product_error (given 0) (given 1)) (given 2) top size (near_product (given 0) (given 1) (m 0) (m 1) (e 0) (e 1) x y) z away in
    record {
      machine_divides = not_zero (m 2) some;
      exact_divides = d.divisor;
      within = rounded_within MulDiv shift given m e (int_div (m 0 *ℤ m 1) (m 2)) (record {
        value = product_over (m 0) (m 1) (m 2) some;
        hull = hull_of_three_corners (λ s t u. rounded_fraction Zero (divided (times (whole s) (whole t)) (whole u))) (λ s t u. int_div (s *ℤ t) u) _ _ _ _ _ _ (λ s t u i j k. product_over s t u (one_sided_divisor _ _ u side k)) (λ t u j k s i. between_quotients u _ _ _ (one_sided_divisor _ _ u side k) (product_first t _ _ s i)) (λ s u i k t j. between_quotients u _ _ _ (one_sided_divisor _ _ u side k) (product_second s _ _ t j)) (λ s t i j. quotient_second (s *ℤ t) _ _ side) (m 0) (m 1) (m 2) (inside _ _ _ x) (inside _ _ _ y) (inside _ _ _ z);
        error = d.near (int_div (m 0 *ℤ m 1) (m 2)) (int_div-error (m 0 *ℤ m 1) (m 2) some);
      });
    }
