-- The rule of each form with binary points is sound. One lemma for each, after its hull and its error.
use Rattle.std.specs.Prelude.{◌≡◌, ℕ, suc, ◌+◌, ◌-◌, ◌*◌, ◌≤◌, ◌^◌, false, List, [], ◌∷◌, ℤ, pos, negsuc, ◌+ℤ◌, ◌-ℤ◌, ◌*ℤ◌, ◌≤ℤ◌, unsigned_abs, int_div, max}
use Rattle.std.proofs.Common.{ap, sym, subst, arith, inl, inr}
use Rattle.std.proofs.Math.Nat.{zero-div}
use Rattle.std.proofs.lemmas.Int.{ints}
use Rattle.std.proofs.lemmas.Nat.{pow_pos}
use native.Mathlib.Nat.{mul-pos}
use Rattle.fx_fraction.specs.Fraction.{Fraction, whole, over, plus, minus, times, divided, absolute, distance, AtMost}
use Rattle.fx_fraction.proofs.WholeNumbers.{int_le-mul_pos, int_le-pos, int_le-sub, int_le_trans, int_le_of-eq, int_mul_not_negative, unsigned_abs-mul_pos}
use Rattle.fx_core.specs.declared.quotient.Mode.TheVariants.{Zero}
use Rattle.fx_core.specs.Rounding.{power}
use Rattle.fx_core.specs.Values.{rounded_fraction}
use Rattle.fx_core.proofs.RoundingLaws.{int_div_order}
use Rattle.fx_routines.specs.declared.operation.ScaledOp.{ScaledOp}
use Rattle.fx_routines.specs.declared.operation.ScaledOp.TheVariants.{Convert, Add, Sub, AbsDiff, Mul, Div}
use Rattle.mfx_scaled.specs.declared.binary_points.Points.{Points}
use Rattle.mfx_scaled.specs.Counts.{raised}
use Rattle.mfx_scaled.specs.Formulas.{point_factor, scaled_formula}
use Rattle.mfx_scaled.proofs.Shifts.{convert_at, difference_at, distance_at, product_at, quotient_at, quotient_shifted, sum_at}
use Rattle.part_rules.specs.declared.bounds.Bounds.{Bounds}
use Rattle.part_rules.specs.Within.{IsWithin}
use Rattle.part_rules.specs.Errors.{may_be_zero, product_error, magnitude}
use Rattle.part_rules.specs.Ranges.{zero_between}
use Rattle.mfx_rules.specs.ScaledRules.{highest, scaled_bounds, scaled_error, scaled_rounded, scaled_values}
use Rattle.mfx_rules.specs.ScaledSoundness.{FormIsGiven, FormKeepsRule}
use Rattle.part_rules.proofs.Hulls.{IsInHull, hull_holds}
use Rattle.part_rules.proofs.CornerHulls.{IsBetween, IsInside, LiesBetween, hull_of_corners, in_hull, ordered_in_hull}
use Rattle.mfx_rules.proofs.ArithValues.{difference_first, difference_second, product_first, product_second, sum_first, sum_second}
use Rattle.part_rules.proofs.Products.{near_product, magnitude_positive, within_magnitude}
use Rattle.part_rules.proofs.Divisors.{IsOneSided, stays_away}
use Rattle.part_rules.proofs.Quotients.{near_scaled}
use Rattle.part_rules.proofs.Sizes.{product_some}
use Rattle.part_rules.proofs.QuotientValues.{between_quotients, int_div-error, one_sided_divisor, quotient_second}
use Rattle.part_rules.proofs.Nearness.{Near}
use Rattle.mfx_rules.proofs.ArithRoutines.{inside, machine_divisor, near, not_zero, shifted_magnitude, zero_there}
use Rattle.mfx_rules.proofs.ScaledDistances.{near_converted, near_difference, near_distance, near_same, near_sum}
use Rattle.mfx_rules.proofs.ScaledQuotients.{divides_raised, quotient_error_is}

-- ---- a form's value z at whole numbers, in its hull and within its error

record IsFormOf (op : ScaledOp) (points : Points) (given : ℕ → Bounds) (m : ℕ → ℤ) (e : ℕ → Fraction) (z : ℤ) : Type 0 where
  value : scaled_rounded op points m ≡ z
  hull : IsInHull (scaled_values op points given) (scaled_rounded op points m)
  error : Near (whole z) (scaled_formula op points e) (scaled_error op points given)

form_within : (op : ScaledOp) (points : Points) (given : ℕ → Bounds) (m : ℕ → ℤ) (e : ℕ → Fraction) (z : ℤ) → IsFormOf op points given m e z → IsWithin (scaled_bounds op points given) (scaled_rounded op points m) (scaled_formula op points e)
unfolding scaled_bounds
form_within op points given m e z x = record {
  low = x.hull.low;
  high = x.hull.high;
  near = subst (λ v. AtMost (distance (whole v) (scaled_formula op points e)) (over (scaled_error op points given) 65536)) (sym x.value) x.error.near;
}

-- a raised number is in the raised range
raised_inside : {lo hi x : ℤ} (a m : ℕ) → IsInside lo hi x → IsInside (raised lo a m) (raised hi a m) (raised x a m)
raised_inside {lo} {hi} {x} a m i = record { low = int_le-mul_pos lo x (2 ^ (m - a)) i.low; high = int_le-mul_pos x hi (2 ^ (m - a)) i.high }

-- a value lies between where what is dropped to it does
dropped : (k : ℕ) (g : ℤ → ℤ) (a b : ℤ) → LiesBetween g a b → LiesBetween (λ x. int_div (g x) (power k)) a b
dropped k g a b h x i = between_quotients (power k) _ _ _ (pow_pos k) (h x i)

-- and where the number that it raises does
of_raised : (a m : ℕ) (g : ℤ → ℤ) (lo hi : ℤ) → LiesBetween g (raised lo a m) (raised hi a m) → LiesBetween (λ x. g (raised x a m)) lo hi
of_raised a m g lo hi h x i = h (raised x a m) (raised_inside a m i)

-- ---- conversions

converted_value : Points → ℤ → ℤ
converted_value points x = rounded_fraction Zero (times (whole x) (point_factor points.a points.c))

drop_order : (k : ℕ) (a b : ℤ) → a ≤ℤ b → int_div a (power k) ≤ℤ int_div b (power k)
drop_order k a b h = int_div_order a b (2 ^ k) (int_le-pos 1 _ (pow_pos k)) h

converted_order : (points : Points) (x y : ℤ) → x ≤ℤ y → converted_value points x ≤ℤ converted_value points y
unfolding converted_value
converted_order points x y h =
    let m = max points.a points.c in
    rw (convert_at x points.a points.c m (omega arith) (omega arith), convert_at y points.a points.c m (omega arith) (omega arith)) (drop_order (m - points.c) _ _ (int_le-mul_pos x y (2 ^ (m - points.a)) h))

pub convert_keeps : (points : Points) (given : ℕ → Bounds) (m : ℕ → ℤ) (e : ℕ → Fraction) → FormIsGiven Convert given m e → FormKeepsRule Convert points given m e
unfolding scaled_values converted_value
convert_keeps points given m e w =
    let x = w 0 (omega arith) in
    let top = max points.a points.c in
    record {
      machine_divides = tt;
      exact_divides = tt;
      within = form_within Convert points given m e _ (record {
        value = convert_at (m 0) points.a points.c top (omega arith) (omega arith);
        hull = hull_holds _ 0 1 _ (omega arith) (omega arith) (converted_order points _ _ x.low) (converted_order points _ _ x.high);
        error = near_converted points.a points.c (m 0) (given 0).err (e 0) (near _ _ _ x);
      });
    }

-- ---- sums and differences

pub add_keeps : (points : Points) (given : ℕ → Bounds) (m : ℕ → ℤ) (e : ℕ → Fraction) → FormIsGiven Add given m e → FormKeepsRule Add points given m e
unfolding scaled_values
add_keeps points given m e w =
    let x = w 0 (omega arith) in
    let y = w 1 (omega arith) in
    let a = points.a in
    let b = points.b in
    let c = points.c in
    let h = highest points in
    record {
      machine_divides = tt;
      exact_divides = tt;
      within = form_within Add points given m e _ (record {
        value = sum_at (m 0) (m 1) a b c h (omega arith) (omega arith) (omega arith);
        hull = hull_of_corners (λ s t. rounded_fraction Zero (plus (times (whole s) (point_factor a c)) (times (whole t) (point_factor b c)))) (λ s t. int_div (raised s a h +ℤ raised t b h) (power (h - c))) _ _ _ _ [] (λ s t i j. sum_at s t a b c h (omega arith) (omega arith) (omega arith)) (λ t j. dropped (h - c) _ _ _ (of_raised a h (λ s. s +ℤ raised t b h) _ _ (sum_first (raised t b h) _ _))) (λ s i. dropped (h - c) _ _ _ (of_raised b h (λ t. raised s a h +ℤ t) _ _ (sum_second (raised s a h) _ _))) (m 0) (m 1) (inside _ _ _ x) (inside _ _ _ y);
        error = near_sum points (m 0) (m 1) (given 0).err (given 1).err (e 0) (e 1) (near _ _ _ x) (near _ _ _ y);
      });
    }

pub sub_keeps : (points : Points) (given : ℕ → Bounds) (m : ℕ → ℤ) (e : ℕ → Fraction) → FormIsGiven Sub given m e → FormKeepsRule Sub points given m e
unfolding scaled_values
sub_keeps points given m e w =
    let x = w 0 (omega arith) in
    let y = w 1 (omega arith) in
    let a = points.a in
    let b = points.b in
    let c = points.c in
    let h = highest points in
    record {
      machine_divides = tt;
      exact_divides = tt;
      within = form_within Sub points given m e _ (record {
        value = difference_at (m 0) (m 1) a b c h (omega arith) (omega arith) (omega arith);
        hull = hull_of_corners (λ s t. rounded_fraction Zero (minus (times (whole s) (point_factor a c)) (times (whole t) (point_factor b c)))) (λ s t. int_div (raised s a h -ℤ raised t b h) (power (h - c))) _ _ _ _ [] (λ s t i j. difference_at s t a b c h (omega arith) (omega arith) (omega arith)) (λ t j. dropped (h - c) _ _ _ (of_raised a h (λ s. s -ℤ raised t b h) _ _ (difference_first (raised t b h) _ _))) (λ s i. dropped (h - c) _ _ _ (of_raised b h (λ t. raised s a h -ℤ t) _ _ (difference_second (raised s a h) _ _))) (m 0) (m 1) (inside _ _ _ x) (inside _ _ _ y);
        error = near_difference points (m 0) (m 1) (given 0).err (given 1).err (e 0) (e 1) (near _ _ _ x) (near _ _ _ y);
      });
    }

-- ---- distances

distance_value : Points → ℤ → ℤ → ℤ
distance_value points x y = rounded_fraction Zero (absolute (minus (times (whole x) (point_factor points.a points.c)) (times (whole y) (point_factor points.b points.c))))

-- the difference at the highest point
abbrev difference_of : Points → ℤ → ℤ → ℤ
difference_of points x y = raised x points.a (highest points) -ℤ raised y points.b (highest points)

distance_value_at : (points : Points) (x y : ℤ) → distance_value points x y ≡ int_div (pos (unsigned_abs (difference_of points x y))) (power (highest points - points.c))
unfolding distance_value
distance_value_at points x y = distance_at x y points.a points.b points.c (highest points) (omega arith) (omega arith) (omega arith)

-- the difference where it is whole
abbrev level_difference : Points → ℤ → ℤ → ℤ
level_difference points x y = rounded_fraction Zero (minus (times (whole x) (point_factor points.a (max points.a points.b))) (times (whole y) (point_factor points.b (max points.a points.b))))

level_difference_at : (points : Points) (x y : ℤ) → level_difference points x y ≡ int_div (difference_of points x y) (power (highest points - max points.a points.b))
level_difference_at points x y = difference_at x y points.a points.b (max points.a points.b) (highest points) (omega arith) (omega arith) (omega arith)

abbrev level_differences : Points → ℤ → ℤ → ℤ → ℤ → List ℤ
level_differences points a b c d = level_difference points a c ∷ level_difference points a d ∷ level_difference points b c ∷ level_difference points b d ∷ []

-- 0 over a power is 0
nothing_dropped : (k : ℕ) → int_div (pos 0) (power k) ≡ pos 0
nothing_dropped k = ap pos (zero-div (2 ^ k))

level_below : (points : Points) (x y : ℤ) → difference_of points x y ≤ℤ pos 0 → level_difference points x y ≤ℤ pos 0
level_below points x y h =
    let k = highest points - max points.a points.b in
    rw (level_difference_at points x y) (int_le_trans _ _ _ (drop_order k _ _ h) (int_le_of-eq _ _ (nothing_dropped k)))

level_above : (points : Points) (x y : ℤ) → pos 0 ≤ℤ difference_of points x y → pos 0 ≤ℤ level_difference points x y
level_above points x y h =
    let k = highest points - max points.a points.b in
    rw (level_difference_at points x y) (int_le_trans _ _ _ (int_le_of-eq _ _ (sym (nothing_dropped k))) (drop_order k _ _ h))

abs_diff_hull : (points : Points) (a b c d x y : ℤ) → IsInside a b x → IsInside c d y → IsInHull (distance_value points a c ∷ distance_value points a d ∷ distance_value points b c ∷ distance_value points b d ∷ zero_between (level_differences points a b c d)) (distance_value points x y)
abs_diff_hull points a b c d x y i j =
    let h = highest points in
    let k = h - points.c in
    let vs = distance_value points a c ∷ distance_value points a d ∷ distance_value points b c ∷ distance_value points b d ∷ zero_between (level_differences points a b c d) in
    let i' = raised_inside points.a h i in
    let j' = raised_inside points.b h j in
    let low : difference_of points a d ≤ℤ difference_of points x y = int_le-sub _ _ _ _ i'.low j'.high in
    let high : difference_of points x y ≤ℤ difference_of points b c = int_le-sub _ _ _ _ i'.high j'.low in
    let at_least : IsInHull vs (int_div (pos (unsigned_abs (difference_of points a d))) (power k)) = subst (IsInHull vs) (distance_value_at points a d) (in_hull vs 1 (omega arith)) in
    let at_greatest : IsInHull vs (int_div (pos (unsigned_abs (difference_of points b c))) (power k)) = subst (IsInHull vs) (distance_value_at points b c) (in_hull vs 2 (omega arith)) in
    let at_zero : difference_of points a d ≤ℤ pos 0 → pos 0 ≤ℤ difference_of points b c → IsInHull vs (int_div (pos 0) (power k)) = λ p q. rw (nothing_dropped k) (subst (λ ws. IsInHull (distance_value points a c ∷ distance_value points a d ∷ distance_value points b c ∷ distance_value points b d ∷ ws) (pos 0)) (sym (zero_there (level_differences points a b c d) 1 2 (omega arith) (omega arith) (level_below points a d p) (level_above points b c q))) (in_hull (distance_value points a c ∷ distance_value points a d ∷ distance_value points b c ∷ distance_value points b d ∷ pos 0 ∷ []) 4 (omega arith))) in
    rw (distance_value_at points x y) (ordered_in_hull (λ z. int_div z (power k)) (drop_order k) vs _ _ _ low high at_least at_greatest at_zero)

pub abs_diff_keeps : (points : Points) (given : ℕ → Bounds) (m : ℕ → ℤ) (e : ℕ → Fraction) → FormIsGiven AbsDiff given m e → FormKeepsRule AbsDiff points given m e
unfolding scaled_values distance_value
abs_diff_keeps points given m e w =
    let x = w 0 (omega arith) in
    let y = w 1 (omega arith) in
    record {
      machine_divides = tt;
      exact_divides = tt;
      within = form_within AbsDiff points given m e _ (record {
        value = distance_value_at points (m 0) (m 1);
        hull = abs_diff_hull points _ _ _ _ (m 0) (m 1) (inside _ _ _ x) (inside _ _ _ y);
        error = near_distance points (m 0) (m 1) (given 0).err (given 1).err (e 0) (e 1) (near _ _ _ x) (near _ _ _ y);
      });
    }

-- ---- products

raised_between : (a m : ℕ) (u v w : ℤ) → IsBetween u v w → IsBetween (raised u a m) (raised v a m) (raised w a m)
raised_between a m u v w (inl i) = inl (record { low = int_le-mul_pos u v (2 ^ (m - a)) i.low; high = int_le-mul_pos v w (2 ^ (m - a)) i.high })
raised_between a m u v w (inr i) = inr (record { low = int_le-mul_pos w v (2 ^ (m - a)) i.low; high = int_le-mul_pos v u (2 ^ (m - a)) i.high })

pub mul_keeps : (points : Points) (given : ℕ → Bounds) (m : ℕ → ℤ) (e : ℕ → Fraction) → FormIsGiven Mul given m e → FormKeepsRule Mul points given m e
unfolding scaled_values
mul_keeps points given m e w =
    let x = w 0 (omega arith) in
    let y = w 1 (omega arith) in
    let a = points.a in
    let b = points.b in
    let c = points.c in
    let h = max (a + b) c in
    record {
      machine_divides = tt;
      exact_divides = tt;
      within = form_within Mul points given m e _ (record {
        value = product_at (m 0) (m 1) a b c h (omega arith) (omega arith);
        hull = hull_of_corners (λ s t. rounded_fraction Zero (times (times (whole s) (whole t)) (point_factor (a + b) c))) (λ s t. int_div (raised (s *ℤ t) (a + b) h) (power (h - c))) _ _ _ _ [] (λ s t i j. product_at s t a b c h (omega arith) (omega arith)) (λ t j. dropped (h - c) (λ s. raised (s *ℤ t) (a + b) h) _ _ (λ s i. raised_between (a + b) h _ _ _ (product_first t _ _ s i))) (λ s i. dropped (h - c) (λ t. raised (s *ℤ t) (a + b) h) _ _ (λ t j. raised_between (a + b) h _ _ _ (product_second s _ _ t j))) (m 0) (m 1) (inside _ _ _ x) (inside _ _ _ y);
        error = near_converted (a + b) c (m 0 *ℤ m 1) (product_error (given 0) (given 1)) (times (e 0) (e 1)) (near_product (given 0) (given 1) (m 0) (m 1) (e 0) (e 1) x y);
      });
    }

-- ---- quotients

-- a range on one side of 0, raised
raised_side : (lo hi : ℤ) (k : ℕ) → 1 ≤ k → IsOneSided lo hi → IsOneSided (lo *ℤ pos k) (hi *ℤ pos k)
raised_side lo hi k some (inl h) = inl (product_some lo (pos k) h (int_le-pos 1 k some))
raised_side lo (negsuc n) k some (inr h) = let below : 1 ≤ suc n * k = mul-pos (omega arith) some in inr (omega (arith, ints, below))
raised_side lo (pos n) k some (inr h) = absurd h.le

raised_some : (a m : ℕ) (n : ℤ) → 1 ≤ unsigned_abs n → 1 ≤ unsigned_abs (raised n a m)
raised_some a m n h = rw (unsigned_abs-mul_pos n (2 ^ (m - a))) (mul-pos h (pow_pos (m - a)))

pub some_raised : (n r : ℤ) (a m : ℕ) → r ≡ raised n a m → 1 ≤ unsigned_abs n → 1 ≤ unsigned_abs r
some_raised n r a m is h = rw is (raised_some a m n h)

pub div_keeps : (points : Points) (given : ℕ → Bounds) (m : ℕ → ℤ) (e : ℕ → Fraction) → may_be_zero (given 1) ≡ false → FormIsGiven Div given m e → FormKeepsRule Div points given m e
unfolding scaled_values
div_keeps points given m e away w =
    let x = w 0 (omega arith) in
    let y = w 1 (omega arith) in
    let a = points.a in
    let p = points.c + points.b in
    let h = max a p in
    let side = (stays_away (given 1) away).side in
    let some : 1 ≤ unsigned_abs (m 1) = machine_divisor (given 1) (m 1) (e 1) away y in
    let top : pos 0 ≤ℤ raised (magnitude (given 0)) a h = int_mul_not_negative _ _ (magnitude_positive (given 0)) (int_le-pos _ _ (omega arith)) in
    let size = shifted_magnitude (given 0) (m 0) (2 ^ (h - a)) (within_magnitude (given 0) (m 0) (e 0) x) in
    let z = int_div (raised (m 0) a h) (raised (m 1) p h) in
    let d = divides_raised (h - p) (raised (m 0) a h) (m 1) (times (e 0) (whole (power (h - a)))) (e 1) (raised (magnitude (given 0)) a h) (raised (given 0).err a h) (given 1) top size (near_scaled (2 ^ (h - a)) (m 0) (given 0).err (e 0) (near _ _ _ x)) y away in
    let q = divided (times (e 0) (point_factor a p)) (e 1) in
    let error = near_same z _ (divided (times (e 0) (whole (power (h - a)))) (times (e 1) (whole (power (h - p))))) q (quotient_shifted (e 0) (e 1) a p h (omega arith) (omega arith)) (d.near z (int_div-error (raised (m 0) a h) (raised (m 1) p h) (raised_some p h (m 1) some))) in
    record {
      machine_divides = not_zero (m 1) some;
      exact_divides = d.divisor;
      within = form_within Div points given m e z (record {
        value = quotient_at (m 0) (m 1) a p h (omega arith) (omega arith) some;
        hull = hull_of_corners (λ s t. rounded_fraction Zero (divided (times (whole s) (point_factor a p)) (whole t))) (λ s t. int_div (raised s a h) (raised t p h)) _ _ _ _ [] (λ s t i j. quotient_at s t a p h (omega arith) (omega arith) (one_sided_divisor _ _ t side j)) (λ t j s i. between_quotients (raised t p h) _ _ _ (raised_some p h t (one_sided_divisor _ _ t side j)) (product_first (power (h - a)) _ _ s i)) (λ s i. of_raised p h (int_div (raised s a h)) _ _ (quotient_second (raised s a h) _ _ (raised_side _ _ (2 ^ (h - p)) (pow_pos (h - p)) side))) (m 0) (m 1) (inside _ _ _ x) (inside _ _ _ y);
        error = subst (Near (whole z) q) (quotient_error_is a p (magnitude (given 0)) (given 0).err (given 1)) error;
      });
    }
