-- The value of each form at raw counts, by a step on whole numbers.
use Rattle.std.proofs.Common.{◌≡◌, ℕ, zero, suc, ◌+◌, ◌-◌, ◌*◌, ◌/◌, ◌<◌, ◌≤◌, ◌^◌, ℤ, pos, negsuc, neg_ℤ, ◌+ℤ◌, ◌-ℤ◌, ◌*ℤ◌, true, false, Bool, refl, sym, ap, ap₂, ◌∙◌, subst, arith, inl, inr, max, Some, None, mul_comm, pow_pos, to_z, of_z, FitsSigned}
use Rattle.std.specs.Prelude.{unsigned_abs, int_div, int_lt, if◌then◌else◌}
use Rattle.std.proofs.Math.Nat.{mul-div-mul_right, zero-div}
use native.Mathlib.Nat.{mul-pos}
use Rattle.std.proofs.lemmas.Bool.{cases_lt}
use Rattle.std.proofs.lemmas.Int.{ints, to_z-of_z}
use Rattle.fx_fraction.specs.Fraction.{Fraction, denom, whole, times, divided, is_zero, Is}
use Rattle.fx_fraction.proofs.Denominators.{is_absolute, is_divided_signed, is_minus, is_plus, is_whole, not_zero_out, zero_in, zero_out}
use Rattle.fx_fraction.proofs.WholeNumbers.{int_le_refl, with_sign}
use Rattle.fx_core.specs.declared.quotient.Mode.TheVariants.{Zero}
use Rattle.fx_core.specs.declared.word_type.Ty.{Ty}
use Rattle.fx_core.specs.Types.{greatest_of, least_of, saturated}
use Rattle.fx_core.specs.Rounding.{power, rounded, shifted_rounded}
use Rattle.fx_core.specs.Values.{rounded_fraction, value_in}
use Rattle.fx_core.proofs.RoundingLaws.{rounded_by_one}
use Rattle.std.specs.Int.{w64}
use Rattle.fx_core.proofs.WordSteps.{plain}
use Rattle.mfx_scaled.proofs.Sizes.{word}
use Rattle.fx_core.proofs.TypeLaws.{least-greatest, saturated-held}
use Rattle.mfx_arith.specs.Integers.{quotient_in}
use Rattle.mfx_arith.proofs.WholeNumbers.{quotient-by_other, quotient-by_zero, whole_in-saturated}
use Rattle.fx_routines.specs.declared.operation.ScaledOp.TheVariants.{Convert, Add, Sub, AbsDiff, Mul, Div}
use Rattle.mfx_scaled.specs.declared.binary_points.Points.{Points}
use Rattle.mfx_scaled.specs.Calls.{scaled_value}
use Rattle.mfx_scaled.specs.Counts.{count_in, raised}
use Rattle.mfx_scaled.specs.Formulas.{point_factor}
use Rattle.mfx_scaled.proofs.PointLaws.{is_whole_at_point, raised_twice, times_one}

-- ---- the rounding of a fraction by any of its names

-- a number below 0 is divided as its size
int_div-neg : (n d : ℕ) → int_div (neg_ℤ (pos n)) (pos d) ≡ neg_ℤ (pos (n / d))
int_div-neg zero d = rw zero-div refl
int_div-neg (suc n) d = refl

-- a common factor falls out of a quotient
int_div-scaled : (x : ℤ) (d k : ℕ) → 0 < k → int_div (x *ℤ pos k) (pos (d * k)) ≡ int_div x (pos d)
int_div-scaled (pos x) d k h = ap pos (mul-div-mul_right x d h)
int_div-scaled (negsuc x) d k h = int_div-neg (suc x * k) (d * k) ∙ ap (λ n. neg_ℤ (pos n)) (mul-div-mul_right (suc x) d h)

-- a fraction x / d, rounded toward zero
pub rounded_is : {f : Fraction} {d : ℕ} {x : ℤ} → Is f d x → rounded_fraction Zero f ≡ int_div x (pos d)
unfolding rounded
rounded_is {f} {d} {x} i =
    sym (int_div-scaled f.numer (denom f) d (omega (arith, i.positive)))
    ∙ ap₂ (λ n k. int_div n (pos k)) i.equal (mul_comm (denom f) d)
    ∙ int_div-scaled x d (denom f) (omega arith)

-- two names of one fraction have one value
pub value_is : (t : Ty) {f g : Fraction} {d : ℕ} {x : ℤ} → Is f d x → Is g d x → value_in Zero t None f ≡ value_in Zero t None g
unfolding value_in
value_is t i j = ap (saturated t) (rounded_is i ∙ sym (rounded_is j))

-- ---- one count

-- a count from one point at another
rounded_up : (n : ℤ) (a c : ℕ) → a ≤ c → rounded_fraction Zero (times (whole n) (point_factor a c)) ≡ raised n a c
unfolding rounded
rounded_up n a c h =
    let none : c - c ≡ 0 = omega arith in
    rounded_is (is_whole_at_point n a c c h (omega arith)) ∙ ap (λ k. int_div (raised n a c) (power k)) none ∙ rounded_by_one Zero (raised n a c)

rounded_down : (n : ℤ) (a c : ℕ) → c ≤ a → rounded_fraction Zero (times (whole n) (point_factor a c)) ≡ int_div n (power (a - c))
rounded_down n a c h =
    let none : a - a ≡ 0 = omega arith in
    rounded_is (is_whole_at_point n a c a (omega arith) h) ∙ ap (λ k. int_div (n *ℤ power k) (power (a - c))) none ∙ ap (λ z. int_div z (power (a - c))) (times_one n)

-- a shift by the distance of two points
shifted_up : (n : ℤ) (a c : ℕ) → a ≤ c → shifted_rounded Zero n (pos c -ℤ pos a) ≡ raised n a c
unfolding shifted_rounded
shifted_up n a c h = let e : pos c -ℤ pos a ≡ pos (c - a) = omega (arith, ints) in ap (shifted_rounded Zero n) e

shifted_down : (n : ℤ) (a c k : ℕ) → a ≡ c + suc k → shifted_rounded Zero n (pos c -ℤ pos a) ≡ int_div n (power (a - c))
unfolding shifted_rounded rounded
shifted_down n a c k h =
    let e : pos c -ℤ pos a ≡ negsuc k = omega (arith, ints) in
    let gap : a - c ≡ suc k = omega arith in
    ap (shifted_rounded Zero n) e ∙ ap (λ j. int_div n (power j)) (sym gap)

pub shifted-is : (n : ℤ) (a c : ℕ) → shifted_rounded Zero n (pos c -ℤ pos a) ≡ rounded_fraction Zero (times (whole n) (point_factor a c))
shifted-is n a c =
    elim (cases_lt c a) [
      | inl below ↦ (let gap : a ≡ c + suc (a - suc c) = omega arith in shifted_down n a c (a - suc c) gap ∙ sym (rounded_down n a c (omega arith)))
      | inr up_to ↦ shifted_up n a c up_to ∙ sym (rounded_up n a c up_to)
    ]

pub count_in-shifted : (t : Ty) (n : ℤ) (a c : ℕ) → count_in t n a c ≡ saturated t (shifted_rounded Zero n (pos c -ℤ pos a))
unfolding count_in value_in
count_in-shifted t n a c = ap (saturated t) (sym (shifted-is n a c))

-- a count is stored at a lower point without its last digits, and as it is where it was raised to the point
pub count_in-lowered : (t : Ty) (n : ℤ) (a c : ℕ) → c ≤ a → count_in t n a c ≡ saturated t (int_div n (power (a - c)))
unfolding count_in value_in
count_in-lowered t n a c h = ap (saturated t) (rounded_down n a c h)

pub count_in-raised : (t : Ty) (n : ℤ) (a c : ℕ) → a ≤ c → count_in t (raised n a c) c c ≡ count_in t n a c
unfolding count_in value_in
count_in-raised t n a c h = ap (saturated t) (rounded_up (raised n a c) c c (omega arith) ∙ raised_twice n a c c h (omega arith) ∙ sym (rounded_up n a c h))

-- ---- sums

-- a count at a point that c isn't above, over a power of two
is_lowered : (n : ℤ) (m c : ℕ) → c ≤ m → Is (times (whole n) (point_factor m c)) (2 ^ (m - c)) n
is_lowered n m c h =
    let none : m - m ≡ 0 = omega arith in
    subst (Is (times (whole n) (point_factor m c)) (2 ^ (m - c))) (ap (λ k. n *ℤ power k) none ∙ times_one n) (is_whole_at_point n m c m (omega arith) h)

-- a fraction's value is that of a count where the two are one over a denominator
count_of : (t : Ty) {f : Fraction} (n : ℤ) (m c : ℕ) → c ≤ m → Is f (2 ^ (m - c)) n → value_in Zero t None f ≡ count_in t n m c
unfolding count_in
count_of t n m c h i = value_is t i (is_lowered n m c h)

-- the highest of the three points
abbrev pub highest : Points → ℕ
highest points = max (max points.a points.b) points.c

pub convert_is : (t : Ty) (x y : ℤ) (points : Points) → scaled_value Convert t x y points ≡ count_in t x points.a points.c
unfolding scaled_value count_in
convert_is t x y points = refl

pub add_is : (t : Ty) (x y : ℤ) (points : Points) → scaled_value Add t x y points ≡ count_in t (raised x points.a (highest points) +ℤ raised y points.b (highest points)) (highest points) points.c
unfolding scaled_value
add_is t x y points =
    let m = highest points in
    count_of t _ m points.c (omega arith) (is_plus (is_whole_at_point x points.a points.c m (omega arith) (omega arith)) (is_whole_at_point y points.b points.c m (omega arith) (omega arith)))

pub sub_is : (t : Ty) (x y : ℤ) (points : Points) → scaled_value Sub t x y points ≡ count_in t (raised x points.a (highest points) -ℤ raised y points.b (highest points)) (highest points) points.c
unfolding scaled_value
sub_is t x y points =
    let m = highest points in
    count_of t _ m points.c (omega arith) (is_minus (is_whole_at_point x points.a points.c m (omega arith) (omega arith)) (is_whole_at_point y points.b points.c m (omega arith) (omega arith)))

pub abs_diff_is : (t : Ty) (x y : ℤ) (points : Points) → scaled_value AbsDiff t x y points ≡ count_in t (pos (unsigned_abs (raised x points.a (highest points) -ℤ raised y points.b (highest points)))) (highest points) points.c
unfolding scaled_value
abs_diff_is t x y points =
    let m = highest points in
    count_of t _ m points.c (omega arith) (is_absolute (is_minus (is_whole_at_point x points.a points.c m (omega arith) (omega arith)) (is_whole_at_point y points.b points.c m (omega arith) (omega arith))))

-- ---- products

pub mul_is : (t : Ty) (x y : ℤ) (points : Points) → scaled_value Mul t x y points ≡ count_in t (x *ℤ y) (points.a + points.b) points.c
unfolding scaled_value count_in times whole
mul_is t x y points = refl

-- ---- quotients

-- an end of a type is its own nearest number
end_saturated : (t : Ty) (low : Bool) → saturated t (if low then least_of t else greatest_of t) ≡ (if low then least_of t else greatest_of t)
end_saturated t true = saturated-held t (least_of t) (int_le_refl (least_of t), least-greatest t)
end_saturated t false = saturated-held t (greatest_of t) (least-greatest t, int_le_refl (greatest_of t))

pub quotient-by_zero_end : (t : Ty) (n d : ℤ) → d ≡ pos 0 → quotient_in t n d ≡ (if int_lt n (pos 0) then least_of t else greatest_of t)
quotient-by_zero_end t n d h = quotient-by_zero t n d h ∙ end_saturated t (int_lt n (pos 0))

pub quotient-by_other_nearest : (t : Ty) (n d : ℤ) → (d ≡ pos 0 → ⊥) → quotient_in t n d ≡ saturated t (int_div n d)
quotient-by_other_nearest t n d h = quotient-by_other t n d h ∙ whole_in-saturated t (int_div n d)

-- the same two cases as the code's words give them
pub quotient_by_zero_word : (t : Ty) (n d r : ℤ) → unsigned_abs n < 2 ^ 62 → unsigned_abs d < 2 ^ 62 → of_z w64 d ≡ 0 → FitsSigned w64 r → r ≡ (if int_lt (word n) (pos 0) then least_of t else greatest_of t) → word r ≡ quotient_in t n d
quotient_by_zero_word t n d r h k none fits e =
    let numerator : word n ≡ n = plain w64 n (omega (arith, h)) in
    let divisor : d ≡ pos 0 = sym (plain w64 d (omega (arith, k))) ∙ ap (to_z w64) none in
    to_z-of_z w64 r fits ∙ e ∙ ap (λ z. if int_lt z (pos 0) then least_of t else greatest_of t) numerator ∙ sym (quotient-by_zero_end t n d divisor)

pub quotient_by_other_word : (t : Ty) (n d q r : ℤ) → (of_z w64 d ≡ 0 → ⊥) → FitsSigned w64 q → FitsSigned w64 r → q ≡ int_div n d → r ≡ saturated t (word q) → word r ≡ quotient_in t n d
quotient_by_other_word t n d q r some fits fits' e e' =
    to_z-of_z w64 r fits' ∙ e' ∙ ap (saturated t) (to_z-of_z w64 q fits ∙ e) ∙ sym (quotient-by_other_nearest t n d (λ z. some (ap (of_z w64) z)))

-- the sign of the divisor moves to the dividend
int_div-negsuc : (n : ℤ) (k : ℕ) → int_div (neg_ℤ n) (pos (suc k)) ≡ int_div n (negsuc k)
int_div-negsuc (pos zero) k = rw zero-div refl
int_div-negsuc (pos (suc n)) k = refl
int_div-negsuc (negsuc n) k = refl

pub int_div-with_sign : (x y : ℤ) → (y ≡ pos 0 → ⊥) → int_div (with_sign y x) (pos (unsigned_abs y)) ≡ int_div x y
int_div-with_sign x (pos n) h = refl
int_div-with_sign x (negsuc k) h = int_div-negsuc x k

not_below : (n : ℕ) → int_lt (pos n) (pos 0) ≡ false
not_below n = grind (arith, ints)

-- a fraction is below 0 where its numerator over any denominator is
sign_is : (f x : ℤ) (d e : ℕ) → 0 < d → 0 < e → f *ℤ pos d ≡ x *ℤ pos e → int_lt f (pos 0) ≡ int_lt x (pos 0)
sign_is (pos f) (pos x) d e p q h = not_below f ∙ sym (not_below x)
sign_is (pos f) (negsuc x) d e p q h = let some : 0 < suc x * e = mul-pos (omega arith) q in absurd (omega (arith, ints, h))
sign_is (negsuc f) (pos x) d e p q h = let some : 0 < suc f * d = mul-pos (omega arith) p in absurd (omega (arith, ints, h))
sign_is (negsuc f) (negsuc x) d e p q h = refl

quotient_by_zero : (t : Ty) {f g : Fraction} {d : ℕ} {x : ℤ} → Is f d x → Is g d (pos 0) → value_in Zero t (Some (f, g)) (divided f g) ≡ quotient_in t x (pos 0)
unfolding value_in
quotient_by_zero t {f} {g} {d} {x} i j =
    let sign = sign_is f.numer x d (denom f) i.positive (omega arith) i.equal in
    rw (zero_in refl j, sign) (sym (quotient-by_zero t x (pos 0) refl))

quotient_by_other : (t : Ty) {f g : Fraction} {d : ℕ} {x y : ℤ} (zero : Bool) → is_zero g ≡ zero → (y ≡ pos 0 → ⊥) → Is f d x → Is g d y → value_in Zero t (Some (f, g)) (divided f g) ≡ quotient_in t x y
unfolding value_in
quotient_by_other t true e h i j = absurd (h (zero_out e j))
quotient_by_other t {f} {g} {d} {x} {y} false e h i j =
    rw e (ap (saturated t) (rounded_is (is_divided_signed y (not_zero_out e j) i j) ∙ int_div-with_sign x y h) ∙ sym (quotient-by_other_nearest t x y h))

-- the quotient of two fractions over one denominator is that of their numerators
pub quotient_is : (t : Ty) {f g : Fraction} {d : ℕ} {x : ℤ} (y : ℤ) → Is f d x → Is g d y → value_in Zero t (Some (f, g)) (divided f g) ≡ quotient_in t x y
quotient_is t (pos zero) i j = quotient_by_zero t i j
quotient_is t (pos (suc k)) i j = quotient_by_other t _ refl (λ h. absurd (cc)) i j
quotient_is t (negsuc k) i j = quotient_by_other t _ refl (λ h. absurd (cc)) i j

pub div_is : (t : Ty) (x y : ℤ) (points : Points) → scaled_value Div t x y points ≡ quotient_in t (raised x points.a (max points.a (points.c + points.b))) (raised y (points.c + points.b) (max points.a (points.c + points.b)))
unfolding scaled_value
div_is t x y points =
    let p = points.c + points.b in
    let m = max points.a p in
    quotient_is t _ (is_whole_at_point x points.a p m (omega arith) (omega arith)) (is_whole y (2 ^ (m - p)) (pow_pos (m - p)))

-- what is stored of a count, and of a count that was raised; and the forms
pub ruleset storing = (count_in-lowered, to_z-of_z)

pub ruleset converting = (count_in-raised, to_z-of_z)

pub ruleset forms = (convert_is, add_is, sub_is, abs_diff_is, mul_is, div_is)
