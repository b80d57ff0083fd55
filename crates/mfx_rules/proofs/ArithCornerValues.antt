-- The value of each operation at three whole numbers, by the integers' own words.
use Rattle.std.specs.Prelude.{◌≡◌, ℕ, ◌≤◌, ℤ, pos, ◌+ℤ◌, ◌-ℤ◌, ◌*ℤ◌, unsigned_abs, int_div}
use Rattle.std.specs.Int.{int_min, int_max}
use Rattle.std.proofs.Common.{refl, sym}
use Rattle.std.proofs.lemmas.Nat.{pow_pos}
use Rattle.fx_core.specs.Rounding.{power}
use Rattle.fx_routines.specs.declared.operation.ArithOp.TheVariants.{Add, Sub, AbsDiff, Abs, Mul, Div, MulDiv, MulShRight, DivShLeft, Limit, Min, Max, RateLimiter}
use Rattle.mfx_arith.proofs.WholeNumbers.{plus-whole, minus-whole, absolute-whole, times-whole, lesser-whole, greater-whole}
use Rattle.mfx_rules.specs.ArithCorners.{corner_value}
use Rattle.mfx_rules.proofs.ArithValues.{abs_diff-whole, limit-whole, rate_limiter-whole, rounded-whole, rounded-divided}

pub add_at : (shift : ℕ) (x y z : ℤ) → x +ℤ y ≡ corner_value Add shift x y z
unfolding corner_value
add_at shift x y z = sym (rounded-whole _ _ (plus-whole x y))

pub sub_at : (shift : ℕ) (x y z : ℤ) → x -ℤ y ≡ corner_value Sub shift x y z
unfolding corner_value
sub_at shift x y z = sym (rounded-whole _ _ (minus-whole x y))

pub abs_diff_at : (shift : ℕ) (x y z : ℤ) → pos (unsigned_abs (x -ℤ y)) ≡ corner_value AbsDiff shift x y z
unfolding corner_value
abs_diff_at shift x y z = sym (rounded-whole _ _ (abs_diff-whole x y))

pub abs_at : (shift : ℕ) (x y z : ℤ) → pos (unsigned_abs x) ≡ corner_value Abs shift x y z
unfolding corner_value
abs_at shift x y z = sym (rounded-whole _ _ (absolute-whole x))

pub mul_at : (shift : ℕ) (x y z : ℤ) → x *ℤ y ≡ corner_value Mul shift x y z
unfolding corner_value
mul_at shift x y z = sym (rounded-whole _ _ (times-whole x y))

pub mul_sh_right_at : (shift : ℕ) (x y z : ℤ) → int_div (x *ℤ y) (power shift) ≡ corner_value MulShRight shift x y z
unfolding corner_value
mul_sh_right_at shift x y z = sym (rounded-divided _ (x *ℤ y) (power shift) (times-whole x y) (pow_pos shift))

pub div_at : (shift : ℕ) (x y z : ℤ) → 1 ≤ unsigned_abs y → int_div x y ≡ corner_value Div shift x y z
unfolding corner_value
div_at shift x y z some = sym (rounded-divided _ x y refl some)

pub div_sh_left_at : (shift : ℕ) (x y z : ℤ) → 1 ≤ unsigned_abs y → int_div (x *ℤ power shift) y ≡ corner_value DivShLeft shift x y z
unfolding corner_value
div_sh_left_at shift x y z some = sym (rounded-divided _ (x *ℤ power shift) y (times-whole x (power shift)) some)

pub mul_div_at : (shift : ℕ) (x y z : ℤ) → 1 ≤ unsigned_abs z → int_div (x *ℤ y) z ≡ corner_value MulDiv shift x y z
unfolding corner_value
mul_div_at shift x y z some = sym (rounded-divided _ (x *ℤ y) z (times-whole x y) some)

pub limit_at : (shift : ℕ) (x y z : ℤ) → int_min z (int_max y x) ≡ corner_value Limit shift x y z
unfolding corner_value
limit_at shift x y z = sym (rounded-whole _ _ (limit-whole x y z))

pub min_at : (shift : ℕ) (x y z : ℤ) → int_min x y ≡ corner_value Min shift x y z
unfolding corner_value
min_at shift x y z = sym (rounded-whole _ _ (lesser-whole x y))

pub max_at : (shift : ℕ) (x y z : ℤ) → int_max x y ≡ corner_value Max shift x y z
unfolding corner_value
max_at shift x y z = sym (rounded-whole _ _ (greater-whole x y))

pub rate_limiter_at : (shift : ℕ) (x y z : ℤ) → int_min (y +ℤ z) (int_max (y -ℤ z) x) ≡ corner_value RateLimiter shift x y z
unfolding corner_value
rate_limiter_at shift x y z = sym (rounded-whole _ _ (rate_limiter-whole x y z))
