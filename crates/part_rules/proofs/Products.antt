-- The error of a product, over numerators with a common denominator.
use Rattle.std.specs.Prelude.{◌≡◌, ℕ, ◌+◌, ◌*◌, ◌≤◌, ℤ, pos, negsuc, ◌+ℤ◌, ◌-ℤ◌, ◌*ℤ◌, ◌≤ℤ◌, unsigned_abs}
use Rattle.std.proofs.Common.{refl, arith, mul-le-mul, mul-le-mul_right, le_of_mul-le-mul_right}
use Rattle.std.proofs.lemmas.Int.{ints, clamps}
use Rattle.fx_fraction.specs.Fraction.{Fraction, denom, whole, times, Is}
use Rattle.fx_fraction.proofs.Polynomials.{differences, as_difference, same}
use Rattle.fx_fraction.proofs.WholeNumbers.{int_le_trans, int_le-pos, int_is_natural, le_of-int_le, unsigned_abs-mul_pos, unsigned_abs-sub-products_le}
use Rattle.fx_fraction.proofs.Denominators.{is_self, is_times, common_two}
use Rattle.fx_fraction.proofs.Distances.{error_bound, bound_of_error}
use Rattle.fx_core.specs.Rounding.{IsLeastQuotientAbove, least_quotient_above}
use Rattle.fx_core.proofs.Integers.{le_of_products}
use Rattle.fx_core.proofs.RoundingLaws.{least_quotient_above_bounds}
use Rattle.part_rules.specs.declared.bounds.Bounds.{Bounds}
use Rattle.part_rules.specs.Within.{IsWithin}
use Rattle.part_rules.specs.Errors.{magnitude, product_error}
use Rattle.part_rules.proofs.Nearness.{Near}

-- ---- errors as naturals

-- an error that something keeps isn't negative
pub near_positive : (m err : ℤ) (e : Fraction) → Near (whole m) e err → pos 0 ≤ℤ err
near_positive m err e p =
    let h : (pos (unsigned_abs (m *ℤ pos (denom e) -ℤ e.numer)) *ℤ pos 65536) ≤ℤ (err *ℤ pos (denom e)) = bound_of_error m err e.numer 65536 (denom e) e (omega arith) (is_self e) p.near in
    le_of_products (pos 0) err (denom e) (int_le-pos _ _ (omega arith)) (int_le_trans _ _ _ (int_le-pos _ _ (omega arith)) h)

pub near_numerators : (m err x : ℤ) (d : ℕ) (e : Fraction) → Is e d x → Near (whole m) e err → unsigned_abs (m *ℤ pos d -ℤ x) * 65536 ≤ unsigned_abs err * d
near_numerators m err x d e i p =
    let h : (pos (unsigned_abs (m *ℤ pos d -ℤ x)) *ℤ pos 65536) ≤ℤ (err *ℤ pos d) = bound_of_error m err x 65536 d e (omega arith) i p.near in
    le_of-int_le _ _ (rw (int_is_natural err (near_positive m err e p)) at h)

pub numerators_near : (m x : ℤ) (err d : ℕ) (e : Fraction) → Is e d x → unsigned_abs (m *ℤ pos d -ℤ x) * 65536 ≤ err * d → Near (whole m) e (pos err)
numerators_near m x err d e i h = record { near = error_bound m (pos err) x 65536 d e (omega arith) i (int_le-pos _ _ h) }

-- a number in a range is at most as far from 0 as the range reaches
pub within_magnitude : (b : Bounds) (m : ℤ) (e : Fraction) → IsWithin b m e → unsigned_abs m ≤ unsigned_abs (magnitude b)
within_magnitude b m e w = let low = w.low in let high = w.high in omega (arith, ints, clamps, low, high)

pub magnitude_positive : (b : Bounds) → pos 0 ≤ℤ magnitude b
magnitude_positive b = omega (arith, ints, clamps)

pub magnitude_natural : (b : Bounds) → magnitude b ≡ pos (unsigned_abs (magnitude b))
magnitude_natural b = int_is_natural (magnitude b) (magnitude_positive b)

-- ---- the error of a product

-- a quotient of what isn't negative, rounded up, isn't either
pub above_positive : (n d r : ℤ) → pos 0 ≤ℤ n → pos 1 ≤ℤ d → IsLeastQuotientAbove n d r → pos 0 ≤ℤ r
above_positive n (pos d) r h one b = le_of_products (pos 0) r d one (int_le_trans (pos (0 * d)) (pos 0) (r *ℤ pos d) (int_le-pos _ _ (omega arith)) (int_le_trans _ _ _ h b.0))
above_positive n (negsuc d) r h one b = absurd one.le

product_naturals : (a b u v M N E F q d s : ℕ) → 1 ≤ s → a ≤ M → b ≤ N → u * s ≤ E * d → v * s ≤ F * d → E * F ≤ q * s → (a * d * v + b * d * u + u * v) * s ≤ (M * F + N * E + q) * (d * d)
product_naturals a b u v M N E F q d s one h k p t r =
    let first : a * d * (v * s) ≤ M * d * (F * d) = mul-le-mul (mul-le-mul_right d h) t in
    let second : b * d * (u * s) ≤ N * d * (E * d) = mul-le-mul (mul-le-mul_right d k) p in
    let both : u * s * (v * s) ≤ E * d * (F * d) = mul-le-mul p t in
    let above : E * F * (d * d) ≤ q * s * (d * d) = mul-le-mul_right (d * d) r in
    let third : u * v * s * s ≤ q * (d * d) * s = omega (arith, both, above) in
    let third' : u * v * s ≤ q * (d * d) = le_of_mul-le-mul_right third one in
    omega (arith, first, second, third')

spread : (m n : ℤ) (d : ℕ) → m *ℤ n *ℤ pos (d * d) ≡ m *ℤ pos d *ℤ (n *ℤ pos d)
spread m n d = rw (as_difference m, as_difference n) (simp differences (same _ _ _ _ (omega arith)))

product_numerators : (m n x y : ℤ) (M N E F q d : ℕ) → unsigned_abs m ≤ M → unsigned_abs n ≤ N → unsigned_abs (m *ℤ pos d -ℤ x) * 65536 ≤ E * d → unsigned_abs (n *ℤ pos d -ℤ y) * 65536 ≤ F * d → E * F ≤ q * 65536 → unsigned_abs (m *ℤ n *ℤ pos (d * d) -ℤ x *ℤ y) * 65536 ≤ (M * F + N * E + q) * (d * d)
product_numerators m n x y M N E F q d h k p t r =
    let u = unsigned_abs (m *ℤ pos d -ℤ x) in
    let v = unsigned_abs (n *ℤ pos d -ℤ y) in
    let moves : unsigned_abs (m *ℤ pos d *ℤ (n *ℤ pos d) -ℤ x *ℤ y) ≤ unsigned_abs (m *ℤ pos d) * v + unsigned_abs (n *ℤ pos d) * u + u * v = unsigned_abs-sub-products_le (m *ℤ pos d) (n *ℤ pos d) x y in
    let moves' : unsigned_abs (m *ℤ pos d *ℤ (n *ℤ pos d) -ℤ x *ℤ y) ≤ unsigned_abs m * d * v + unsigned_abs n * d * u + u * v = rw (unsigned_abs-mul_pos m d, unsigned_abs-mul_pos n d) at moves in
    let bound = product_naturals (unsigned_abs m) (unsigned_abs n) u v M N E F q d 65536 (omega arith) h k p t r in
    let wide = mul-le-mul_right 65536 moves' in
    rw (spread m n d) (omega (arith, wide, bound))

-- the error of a product as a natural
pub record IsProductError (x y : Bounds) : Type 0 where
  pub rest : ℕ
  pub is : product_error x y ≡ pos (unsigned_abs (magnitude x) * unsigned_abs y.err + unsigned_abs (magnitude y) * unsigned_abs x.err + rest)
  pub above : unsigned_abs x.err * unsigned_abs y.err ≤ rest * 65536

natural_sum : (a b e f q : ℤ) (A B E F Q : ℕ) → a ≡ pos A → b ≡ pos B → e ≡ pos E → f ≡ pos F → q ≡ pos Q → a *ℤ f +ℤ b *ℤ e +ℤ q ≡ pos (A * F + B * E + Q)
natural_sum a b e f q A B E F Q h k p t r = rw (h, k, p, t, r) refl

natural_order : (e f q : ℤ) (E F Q : ℕ) → e ≡ pos E → f ≡ pos F → q ≡ pos Q → (e *ℤ f) ≤ℤ (q *ℤ pos 65536) → E * F ≤ Q * 65536
natural_order e f q E F Q h k p low = le_of-int_le _ _ (rw (h, k, p) at low)

pub product_error_of : (x y : Bounds) → pos 0 ≤ℤ x.err → pos 0 ≤ℤ y.err → IsProductError x y
unfolding product_error
product_error_of x y h k =
    let one : pos 1 ≤ℤ pos 65536 = int_le-pos _ _ (omega arith) in
    let e : x.err ≡ pos (unsigned_abs x.err) = int_is_natural x.err h in
    let f : y.err ≡ pos (unsigned_abs y.err) = int_is_natural y.err k in
    let q = least_quotient_above (x.err *ℤ y.err) (pos 65536) in
    let b : IsLeastQuotientAbove (x.err *ℤ y.err) (pos 65536) q = least_quotient_above_bounds (x.err *ℤ y.err) (pos 65536) one in
    let p : pos 0 ≤ℤ q = above_positive _ _ q (rw (e, f) (int_le-pos _ _ (omega arith))) one b in
    let same : q ≡ pos (unsigned_abs q) = int_is_natural q p in
    let low : (x.err *ℤ y.err) ≤ℤ (q *ℤ pos 65536) = b.0 in
    record {
      rest = unsigned_abs q;
      is = natural_sum _ _ _ _ _ _ _ _ _ _ (magnitude_natural x) (magnitude_natural y) e f same;
      above = natural_order _ _ _ _ _ _ e f same low;
    }

pub near_product : (x y : Bounds) (m n : ℤ) (e f : Fraction) → IsWithin x m e → IsWithin y n f → Near (whole (m *ℤ n)) (times e f) (product_error x y)
near_product x y m n e f p q =
    let c = common_two e f in
    let first : Near (whole m) e x.err = record { near = p.near } in
    let second : Near (whole n) f y.err = record { near = q.near } in
    let err = product_error_of x y (near_positive m x.err e first) (near_positive n y.err f second) in
    rw err.is (numerators_near (m *ℤ n) (c.x *ℤ c.y) _ (c.bottom * c.bottom) (times e f) (is_times c.first c.second)
    (product_numerators m n c.x c.y _ _ _ _ err.rest c.bottom (within_magnitude x m e p) (within_magnitude y n f q) (near_numerators m x.err c.x c.bottom e c.first first) (near_numerators n y.err c.y c.bottom f c.second second) err.above))
