-- The value of each operation at whole numbers, by the integers' own words.
use Rattle.std.proofs.Common.{◌≡◌, ℕ, zero, suc, ◌<◌, ◌^◌, ℤ, pos, negsuc, neg_ℤ, ◌+ℤ◌, ◌-ℤ◌, ◌*ℤ◌, true, false, Bool, cond, None, Some, refl, sym, ap, ap₂, ◌∙◌, arith, pow_pos}
use Rattle.std.specs.Prelude.{◌==◌, unsigned_abs, int_div, int_rem, int_lt, int_le, if◌then◌else◌}
use Rattle.std.specs.Int.{int_max, int_min}
use Rattle.std.proofs.Math.Dec.{eqb-suc-zero}
use Rattle.std.proofs.Math.Nat.{zero-div}
use Rattle.std.proofs.lemmas.Int.{ints, quot-rem, to_z-of_z}
use Rattle.fx_fraction.specs.Fraction.{Fraction, whole, plus, minus, times, divided, quotient, lesser, greater, absolute, is_zero}
use Rattle.fx_core.specs.declared.quotient.Mode.TheVariants.{Zero}
use Rattle.fx_core.specs.declared.word_type.Ty.{Ty}
use Rattle.fx_core.specs.Types.{greatest_of, least_of, saturated}
use Rattle.fx_core.specs.Rounding.{power, rounded}
use Rattle.fx_core.specs.Values.{rounded_fraction, value_in}
use Rattle.fx_core.proofs.RoundingLaws.{rounded_by_one}
use Rattle.fx_routines.specs.declared.operation.ArithOp.TheVariants.{Add, Sub, AbsDiff, Abs, Mul, Div, Mod, MulDiv, MulShRight, DivShLeft, Limit, Min, Max, RateLimiter}
use Rattle.mfx_arith.specs.Formulas.{remainder}
use Rattle.mfx_arith.specs.Calls.{arith_value}
use Rattle.mfx_arith.specs.Integers.{quotient_in, whole_in, whole_remainder}

-- ---- the operations of fractions at whole numbers

times_one : (x : ℤ) → x *ℤ pos 1 ≡ x
times_one x = omega (arith, ints)

pub plus-whole : (x y : ℤ) → plus (whole x) (whole y) ≡ whole (x +ℤ y)
unfolding plus whole
plus-whole x y = ap whole (ap₂ (λ s t. s +ℤ t) (times_one x) (times_one y))

pub minus-whole : (x y : ℤ) → minus (whole x) (whole y) ≡ whole (x -ℤ y)
unfolding minus whole
minus-whole x y = ap whole (ap₂ (λ s t. s -ℤ t) (times_one x) (times_one y))

pub absolute-whole : (x : ℤ) → absolute (whole x) ≡ whole (pos (unsigned_abs x))
unfolding absolute whole
absolute-whole x = refl

pub times-whole : (x y : ℤ) → times (whole x) (whole y) ≡ whole (x *ℤ y)
unfolding times whole
times-whole x y = refl

-- the smaller and the larger of two, by whichever test
chosen : (x y : ℤ) (b c : Bool) → int_le x y ≡ b → int_lt y x ≡ c → (if b then whole x else whole y) ≡ whole (cond c y x)
chosen x y true false e f = refl
chosen x y false true e f = refl
chosen x y true true e f = absurd (omega (arith, ints, e, f))
chosen x y false false e f = absurd (omega (arith, ints, e, f))

pub lesser-whole : (x y : ℤ) → lesser (whole x) (whole y) ≡ whole (int_min x y)
unfolding lesser whole
lesser-whole x y = ap₂ (λ s t. if int_le s t then whole x else whole y) (times_one x) (times_one y) ∙ chosen x y (int_le x y) (int_lt y x) refl refl

chosen_other : (x y : ℤ) (b c : Bool) → int_le x y ≡ b → int_lt y x ≡ c → (if b then whole y else whole x) ≡ whole (cond c x y)
chosen_other x y true false e f = refl
chosen_other x y false true e f = refl
chosen_other x y true true e f = absurd (omega (arith, ints, e, f))
chosen_other x y false false e f = absurd (omega (arith, ints, e, f))

pub greater-whole : (x y : ℤ) → greater (whole x) (whole y) ≡ whole (int_max x y)
unfolding greater whole
greater-whole x y = ap₂ (λ s t. if int_le s t then whole y else whole x) (times_one x) (times_one y) ∙ chosen_other x y (int_le x y) (int_lt y x) refl refl

-- a whole number is its own rounding
pub rounded-whole : (x : ℤ) → rounded_fraction Zero (whole x) ≡ x
unfolding whole
rounded-whole x = rounded_by_one Zero x

-- so a whole number's value is the nearest of the type
pub whole_in-saturated : (t : Ty) (n : ℤ) → whole_in t n ≡ saturated t n
unfolding whole_in value_in
whole_in-saturated t n = ap (saturated t) (rounded-whole n)

-- a fraction's value is that of its rounding
value_of_rounding : (t : Ty) (f : Fraction) (n : ℤ) → rounded_fraction Zero f ≡ n → value_in Zero t None f ≡ whole_in t n
unfolding value_in
value_of_rounding t f n e = ap (saturated t) e ∙ sym (whole_in-saturated t n)

-- ---- sums

pub add_is : (t : Ty) (x y z : ℤ) (shift : ℕ) → arith_value Add t x y z shift ≡ whole_in t (x +ℤ y)
unfolding arith_value whole_in
add_is t x y z shift = ap (value_in Zero t None) (plus-whole x y)

pub sub_is : (t : Ty) (x y z : ℤ) (shift : ℕ) → arith_value Sub t x y z shift ≡ whole_in t (x -ℤ y)
unfolding arith_value whole_in
sub_is t x y z shift = ap (value_in Zero t None) (minus-whole x y)

pub abs_diff_is : (t : Ty) (x y z : ℤ) (shift : ℕ) → arith_value AbsDiff t x y z shift ≡ whole_in t (pos (unsigned_abs (x -ℤ y)))
unfolding arith_value whole_in
abs_diff_is t x y z shift = ap (value_in Zero t None) (ap absolute (minus-whole x y) ∙ absolute-whole (x -ℤ y))

pub abs_is : (t : Ty) (x y z : ℤ) (shift : ℕ) → arith_value Abs t x y z shift ≡ whole_in t (pos (unsigned_abs x))
unfolding arith_value whole_in
abs_is t x y z shift = ap (value_in Zero t None) (absolute-whole x)

pub mul_is : (t : Ty) (x y z : ℤ) (shift : ℕ) → arith_value Mul t x y z shift ≡ whole_in t (x *ℤ y)
unfolding arith_value whole_in
mul_is t x y z shift = ap (value_in Zero t None) (times-whole x y)

-- ---- limits

pub min_is : (t : Ty) (x y z : ℤ) (shift : ℕ) → arith_value Min t x y z shift ≡ whole_in t (int_min x y)
unfolding arith_value whole_in
min_is t x y z shift = ap (value_in Zero t None) (lesser-whole x y)

pub max_is : (t : Ty) (x y z : ℤ) (shift : ℕ) → arith_value Max t x y z shift ≡ whole_in t (int_max x y)
unfolding arith_value whole_in
max_is t x y z shift = ap (value_in Zero t None) (greater-whole x y)

pub limit_is : (t : Ty) (x y z : ℤ) (shift : ℕ) → arith_value Limit t x y z shift ≡ whole_in t (int_min z (int_max y x))
unfolding arith_value whole_in
limit_is t x y z shift = ap (value_in Zero t None) (ap (lesser (whole z)) (greater-whole y x) ∙ lesser-whole z (int_max y x))

pub rate_limiter_is : (t : Ty) (x y z : ℤ) (shift : ℕ) → arith_value RateLimiter t x y z shift ≡ whole_in t (int_min (y +ℤ z) (int_max (y -ℤ z) x))
unfolding arith_value whole_in
rate_limiter_is t x y z shift = ap (value_in Zero t None) (ap₂ lesser (plus-whole y z) (ap (λ f. greater f (whole x)) (minus-whole y z) ∙ greater-whole (y -ℤ z) x) ∙ lesser-whole (y +ℤ z) (int_max (y -ℤ z) x))

-- ---- quotients

-- a quotient of whole numbers, and a fraction of them
pub divided-whole : (n d : ℤ) → divided (whole n) (whole d) ≡ quotient n d
unfolding divided whole
divided-whole n d = ap₂ quotient (times_one n) (times_one d)

-- the sign of the divisor moves to the dividend
pub int_div-negsuc : (n : ℤ) (k : ℕ) → int_div (neg_ℤ n) (pos (suc k)) ≡ int_div n (negsuc k)
int_div-negsuc (pos zero) k = rw zero-div refl
int_div-negsuc (pos (suc n)) k = refl
int_div-negsuc (negsuc n) k = refl

-- where the divisor is not 0, the rounding is the quotient toward zero
rounded-quotient : (n d : ℤ) → (d ≡ pos 0 → ⊥) → rounded_fraction Zero (quotient n d) ≡ int_div n d
unfolding quotient rounded
rounded-quotient n (pos zero) h = absurd (h refl)
rounded-quotient n (pos (suc k)) h = refl
rounded-quotient n (negsuc k) h = int_div-negsuc n k

pub rounded-divided : (n d : ℤ) → (d ≡ pos 0 → ⊥) → rounded_fraction Zero (divided (whole n) (whole d)) ≡ int_div n d
rounded-divided n d h = ap (rounded_fraction Zero) (divided-whole n d) ∙ rounded-quotient n d h

-- a quotient by 0 is an end of the type, and another one is the quotient toward zero
pub quotient-by_zero : (t : Ty) (n d : ℤ) → d ≡ pos 0 → quotient_in t n d ≡ saturated t (if int_lt n (pos 0) then least_of t else greatest_of t)
unfolding quotient_in value_in whole is_zero
quotient-by_zero t n (pos zero) h = refl
quotient-by_zero t n (pos (suc k)) h = absurd (cc)
quotient-by_zero t n (negsuc k) h = absurd (cc)

not_zero : (d : ℤ) → (d ≡ pos 0 → ⊥) → (unsigned_abs d == 0) ≡ false
not_zero (pos zero) h = absurd (h refl)
not_zero (pos (suc k)) h = eqb-suc-zero k
not_zero (negsuc k) h = eqb-suc-zero k

pub quotient-by_other : (t : Ty) (n d : ℤ) → (d ≡ pos 0 → ⊥) → quotient_in t n d ≡ whole_in t (int_div n d)
unfolding quotient_in value_in is_zero whole
quotient-by_other t n d h = rw (not_zero d h) (ap (saturated t) (rounded-divided n d h) ∙ sym (whole_in-saturated t (int_div n d)))

pub div_is : (t : Ty) (x y z : ℤ) (shift : ℕ) → arith_value Div t x y z shift ≡ quotient_in t x y
unfolding arith_value quotient_in
div_is t x y z shift = refl

pub mul_div_is : (t : Ty) (x y z : ℤ) (shift : ℕ) → arith_value MulDiv t x y z shift ≡ quotient_in t (x *ℤ y) z
unfolding arith_value quotient_in
mul_div_is t x y z shift = ap (λ f. value_in Zero t (Some (f, whole z)) (divided f (whole z))) (times-whole x y)

pub div_sh_left_is : (t : Ty) (x y z : ℤ) (shift : ℕ) → arith_value DivShLeft t x y z shift ≡ quotient_in t (x *ℤ power shift) y
unfolding arith_value quotient_in
div_sh_left_is t x y z shift = ap (λ f. value_in Zero t (Some (f, whole y)) (divided f (whole y))) (times-whole x (power shift))

-- two to a power is not 0
power_not_zero : (k : ℕ) → power k ≡ pos 0 → ⊥
power_not_zero k h = let p : 0 < 2 ^ k = pow_pos k in absurd (omega (arith, ap unsigned_abs h))

pub mul_sh_right_is : (t : Ty) (x y z : ℤ) (shift : ℕ) → arith_value MulShRight t x y z shift ≡ whole_in t (int_div (x *ℤ y) (power shift))
unfolding arith_value
mul_sh_right_is t x y z shift =
    ap (λ f. value_in Zero t None (divided f (whole (power shift)))) (times-whole x y) ∙ value_of_rounding t _ _ (rounded-divided (x *ℤ y) (power shift) (power_not_zero shift))

-- ---- remainders

-- what is left by the quotient toward zero
left_by : (x y : ℤ) → x -ℤ y *ℤ int_div x y ≡ int_rem x y
left_by x y = omega (arith, ints, quot-rem x y)

remainder-by_other : (x y : ℤ) → (y ≡ pos 0 → ⊥) → minus (whole x) (times (whole y) (whole (rounded_fraction Zero (divided (whole x) (whole y))))) ≡ whole (int_rem x y)
remainder-by_other x y h =
    ap (λ q. minus (whole x) (times (whole y) (whole q))) (rounded-divided x y h) ∙ ap (minus (whole x)) (times-whole y (int_div x y)) ∙ minus-whole x (y *ℤ int_div x y) ∙ ap whole (left_by x y)

remainder-by_zero : (x : ℤ) → remainder (whole x) (whole (pos 0)) ≡ whole (whole_remainder x (pos 0))
unfolding remainder is_zero whole whole_remainder
remainder-by_zero x = refl

remainder-other : (x y : ℤ) → (y ≡ pos 0 → ⊥) → remainder (whole x) (whole y) ≡ whole (whole_remainder x y)
unfolding remainder is_zero whole whole_remainder
remainder-other x y h = rw (not_zero y h) (remainder-by_other x y h)

remainder-whole : (x y : ℤ) → remainder (whole x) (whole y) ≡ whole (whole_remainder x y)
remainder-whole x (pos zero) = remainder-by_zero x
remainder-whole x (pos (suc k)) = remainder-other x (pos (suc k)) (λ h. absurd (cc))
remainder-whole x (negsuc k) = remainder-other x (negsuc k) (λ h. absurd (cc))

pub modulo_is : (t : Ty) (x y z : ℤ) (shift : ℕ) → arith_value Mod t x y z shift ≡ whole_in t (whole_remainder x y)
unfolding arith_value whole_in
modulo_is t x y z shift = ap (value_in Zero t None) (remainder-whole x y)

-- what is stored of a whole number, for the function that stores it
pub ruleset storing = (whole_in-saturated, to_z-of_z)

-- the two cases of a quotient
pub ruleset quotients = (quotient-by_zero, quotient-by_other, to_z-of_z)
