-- The forms as shifts: at a point m that no other is above, each is a formula of plain arithmetic on fractions that are shifted
-- to the left, over two to a power. Errors and ranges of plain arithmetic serve the forms so.
-- For sums m is the highest of a, b and c. With g = m - c places dropped, m - a is g + c - a, and m - b is g + c - b.
use Rattle.std.proofs.Common.{◌≡◌, ℕ, zero, suc, ◌+◌, ◌-◌, ◌*◌, ◌≤◌, ◌^◌, ℤ, pos, negsuc, false, ◌+ℤ◌, ◌-ℤ◌, ◌*ℤ◌, refl, sym, ap, ◌∙◌, subst, arith, max, mul_comm, pow_pos, zero-mul}
use Rattle.std.specs.Prelude.{◌==◌, unsigned_abs, int_div}
use Rattle.std.proofs.Math.Dec.{eqb-suc-zero}
use native.Mathlib.Nat.{mul-pos}
use Rattle.fx_fraction.specs.Fraction.{Fraction, whole, plus, minus, times, absolute, divided, is_zero, Is, Same}
use Rattle.fx_fraction.proofs.Denominators.{common_two, is_absolute, is_divided, is_divided_signed, is_divided_zero, is_minus, is_plus, is_renamed, is_scaled, is_self, is_times, is_whole, Same-in}
use Rattle.fx_fraction.proofs.WholeNumbers.{unsigned_abs-mul_pos, with_sign}
use Rattle.fx_core.specs.declared.quotient.Mode.TheVariants.{Zero}
use Rattle.fx_core.specs.Rounding.{power}
use Rattle.fx_core.specs.Values.{rounded_fraction}
use Rattle.mfx_scaled.specs.Counts.{raised}
use Rattle.mfx_scaled.specs.Formulas.{point_factor}
use Rattle.mfx_scaled.proofs.PointLaws.{is_at_point, is_difference_at_point, is_distance_at_point, is_sum_at_point, is_whole_at_point}
use Rattle.mfx_scaled.proofs.Steps.{int_div-with_sign, rounded_is}

-- ---- shifts of fractions

-- to the left: the numerator is raised
pub is_shifted_left : {f : Fraction} {d : ℕ} {n : ℤ} (k : ℕ) → Is f d n → Is (times f (whole (power k))) d (n *ℤ power k)
is_shifted_left {f} {d} {n} k i =
    let one : 2 ^ k * 1 ≡ 2 ^ k = omega arith in
    is_renamed (omega arith) (subst (λ t. Is (times f (whole (power k))) (d * 1) (n *ℤ pos t)) one (is_times i (is_whole (power k) 1 (omega arith))))

-- to the right: the denominator is
pub is_shifted_right : {f : Fraction} {d : ℕ} {n : ℤ} (k : ℕ) → Is f d n → Is (divided f (whole (power k))) (d * 2 ^ k) n
is_shifted_right {f} {d} {n} k i =
    is_renamed (mul_comm (2 ^ k) d) (is_divided {g = whole (power k)} {d = d} {n = 2 ^ k * d} (mul-pos (pow_pos k) i.positive) i (is_whole (power k) d i.positive))

-- ---- the forms on fractions

-- a number other than 0 stays one when it is raised
raised_left : (n : ℤ) (p m : ℕ) → 1 ≤ unsigned_abs n → 1 ≤ unsigned_abs (raised n p m)
raised_left n p m some = subst (λ t. 1 ≤ t) (sym (unsigned_abs-mul_pos n (2 ^ (m - p)))) (mul-pos some (pow_pos (m - p)))

pub convert_shifted : (f : Fraction) (a c m : ℕ) → a ≤ m → c ≤ m → Same (times f (point_factor a c)) (divided (times f (whole (power (m - a)))) (whole (power (m - c))))
convert_shifted f a c m h k = Same-in (is_at_point a c m h k (is_self f)) (is_shifted_right (m - c) (is_shifted_left (m - a) (is_self f))) refl

pub sum_shifted : (f g : Fraction) (a b c m : ℕ) → a ≤ m → b ≤ m → c ≤ m → Same (plus (times f (point_factor a c)) (times g (point_factor b c))) (divided (plus (times f (whole (power (m - a)))) (times g (whole (power (m - b))))) (whole (power (m - c))))
sum_shifted f g a b c m p q r =
    let t = common_two f g in
    Same-in (is_sum_at_point a b c m p q r t.first t.second) (is_shifted_right (m - c) (is_plus (is_shifted_left (m - a) t.first) (is_shifted_left (m - b) t.second))) refl

pub difference_shifted : (f g : Fraction) (a b c m : ℕ) → a ≤ m → b ≤ m → c ≤ m → Same (minus (times f (point_factor a c)) (times g (point_factor b c))) (divided (minus (times f (whole (power (m - a)))) (times g (whole (power (m - b))))) (whole (power (m - c))))
difference_shifted f g a b c m p q r =
    let t = common_two f g in
    Same-in (is_difference_at_point a b c m p q r t.first t.second) (is_shifted_right (m - c) (is_minus (is_shifted_left (m - a) t.first) (is_shifted_left (m - b) t.second))) refl

pub distance_shifted : (f g : Fraction) (a b c m : ℕ) → a ≤ m → b ≤ m → c ≤ m → Same (absolute (minus (times f (point_factor a c)) (times g (point_factor b c)))) (divided (absolute (minus (times f (whole (power (m - a)))) (times g (whole (power (m - b)))))) (whole (power (m - c))))
distance_shifted f g a b c m p q r =
    let t = common_two f g in
    Same-in (is_distance_at_point a b c m p q r t.first t.second) (is_shifted_right (m - c) (is_absolute (is_minus (is_shifted_left (m - a) t.first) (is_shifted_left (m - b) t.second)))) refl

-- a product is a conversion of the plain product, from the sum of the two points
pub product_shifted : (f g : Fraction) (a b c m : ℕ) → a + b ≤ m → c ≤ m → Same (times (times f g) (point_factor (a + b) c)) (divided (times (times f g) (whole (power (m - (a + b))))) (whole (power (m - c))))
product_shifted f g a b c m h k = convert_shifted (times f g) (a + b) c m h k

-- a product and a quotient over one denominator
pub is_product_at_point : {f g : Fraction} {d e : ℕ} {n k : ℤ} (a b c m : ℕ) → a + b ≤ m → c ≤ m → Is f d n → Is g e k → Is (times (times f g) (point_factor (a + b) c)) (d * e * 2 ^ (m - c)) (raised (n *ℤ k) (a + b) m)
is_product_at_point a b c m h l i j = is_at_point (a + b) c m h l (is_times i j)

pub is_quotient_at_point : {f g : Fraction} {d : ℕ} {n k : ℤ} (a p m : ℕ) → a ≤ m → p ≤ m → 1 ≤ unsigned_abs k → Is f d n → Is g d k → Is (divided (times f (point_factor a p)) g) (unsigned_abs (raised k p m)) (with_sign (raised k p m) (raised n a m))
is_quotient_at_point {k = k} a p m h l some i j =
    is_divided_signed (raised k p m) (raised_left k p m some) (is_at_point a p m h l i) (is_scaled (2 ^ (m - p)) (pow_pos (m - p)) j)

-- two quotients have one value where their numerators over a denominator are the same, each quotient over its own
quotients_same : {f g f' g' : Fraction} {d e : ℕ} {x : ℤ} (y : ℤ) → Is f d x → Is g d y → Is f' e x → Is g' e y → Same (divided f g) (divided f' g')
quotients_same {f} {g} {f'} {g'} (pos zero) i j k l = rw (is_divided_zero f j, is_divided_zero f' l) refl
quotients_same (pos (suc n)) i j k l = Same-in (is_divided_signed (pos (suc n)) (omega arith) i j) (is_divided_signed (pos (suc n)) (omega arith) k l) refl
quotients_same (negsuc n) i j k l = Same-in (is_divided_signed (negsuc n) (omega arith) i j) (is_divided_signed (negsuc n) (omega arith) k l) refl

-- a quotient: p is the sum of the output's and the divisor's points, and one of the two shifts is by no place where m is the higher
-- of a and p
pub quotient_shifted : (f g : Fraction) (a p m : ℕ) → a ≤ m → p ≤ m → Same (divided (times f (point_factor a p)) g) (divided (times f (whole (power (m - a)))) (times g (whole (power (m - p)))))
quotient_shifted f g a p m h k =
    let t = common_two f g in
    quotients_same (t.y *ℤ power (m - p)) (is_at_point a p m h k t.first) (is_scaled (2 ^ (m - p)) (pow_pos (m - p)) t.second) (is_shifted_left (m - a) t.first) (is_shifted_left (m - p) t.second)

not_zero : (n : ℕ) → 1 ≤ n → (n == 0) ≡ false
not_zero zero h = absurd (omega arith)
not_zero (suc n) h = eqb-suc-zero n

-- a divisor is 0 exactly where it is when shifted
zero_shifted : (n : ℤ) (k : ℕ) → 1 ≤ k → (unsigned_abs (n *ℤ pos k) == 0) ≡ (unsigned_abs n == 0)
zero_shifted (pos zero) k h = ap (λ n. n == 0) (zero-mul k)
zero_shifted (pos (suc n)) k h = not_zero (suc n * k) (mul-pos (omega arith) h) ∙ sym (not_zero (suc n) (omega arith))
zero_shifted (negsuc n) k h = rw (unsigned_abs-mul_pos (negsuc n) k) (not_zero (suc n * k) (mul-pos (omega arith) h) ∙ sym (not_zero (suc n) (omega arith)))

pub divisor_shifted : (g : Fraction) (k : ℕ) → is_zero (times g (whole (power k))) ≡ is_zero g
unfolding is_zero times whole
divisor_shifted g k = zero_shifted g.numer (2 ^ k) (pow_pos k)

-- ---- the forms at whole numbers, rounded

times-whole : (x y : ℤ) → times (whole x) (whole y) ≡ whole (x *ℤ y)
unfolding times whole
times-whole x y = refl

pub convert_at : (n : ℤ) (a c m : ℕ) → a ≤ m → c ≤ m → rounded_fraction Zero (times (whole n) (point_factor a c)) ≡ int_div (raised n a m) (power (m - c))
convert_at n a c m h k = rounded_is (is_whole_at_point n a c m h k)

pub sum_at : (x y : ℤ) (a b c m : ℕ) → a ≤ m → b ≤ m → c ≤ m → rounded_fraction Zero (plus (times (whole x) (point_factor a c)) (times (whole y) (point_factor b c))) ≡ int_div (raised x a m +ℤ raised y b m) (power (m - c))
sum_at x y a b c m p q r = rounded_is (is_plus (is_whole_at_point x a c m p r) (is_whole_at_point y b c m q r))

pub difference_at : (x y : ℤ) (a b c m : ℕ) → a ≤ m → b ≤ m → c ≤ m → rounded_fraction Zero (minus (times (whole x) (point_factor a c)) (times (whole y) (point_factor b c))) ≡ int_div (raised x a m -ℤ raised y b m) (power (m - c))
difference_at x y a b c m p q r = rounded_is (is_minus (is_whole_at_point x a c m p r) (is_whole_at_point y b c m q r))

pub distance_at : (x y : ℤ) (a b c m : ℕ) → a ≤ m → b ≤ m → c ≤ m → rounded_fraction Zero (absolute (minus (times (whole x) (point_factor a c)) (times (whole y) (point_factor b c)))) ≡ int_div (pos (unsigned_abs (raised x a m -ℤ raised y b m))) (power (m - c))
distance_at x y a b c m p q r = rounded_is (is_absolute (is_minus (is_whole_at_point x a c m p r) (is_whole_at_point y b c m q r)))

pub product_at : (x y : ℤ) (a b c m : ℕ) → a + b ≤ m → c ≤ m → rounded_fraction Zero (times (times (whole x) (whole y)) (point_factor (a + b) c)) ≡ int_div (raised (x *ℤ y) (a + b) m) (power (m - c))
product_at x y a b c m h k = ap (λ f. rounded_fraction Zero (times f (point_factor (a + b) c))) (times-whole x y) ∙ convert_at (x *ℤ y) (a + b) c m h k

pub quotient_at : (x y : ℤ) (a p m : ℕ) → a ≤ m → p ≤ m → 1 ≤ unsigned_abs y → rounded_fraction Zero (divided (times (whole x) (point_factor a p)) (whole y)) ≡ int_div (raised x a m) (raised y p m)
quotient_at x y a p m h k some =
    let left = raised_left y p m some in
    rounded_is (is_divided_signed (raised y p m) left (is_whole_at_point x a p m h k) (is_whole y (2 ^ (m - p)) (pow_pos (m - p))))
    ∙ int_div-with_sign (raised x a m) (raised y p m) (λ e. absurd (omega (arith, ap unsigned_abs e)))

-- the places that a sum drops, from the highest of its points
pub places_dropped : (a b c : ℕ) → max (max a b) c - c ≡ max (a - c) (b - c)
places_dropped a b c = omega arith
