-- The value of each form at two whole numbers, from what the functions of numbers at binary points gave.
use Rattle.std.specs.Prelude.{◌≡◌, ℕ, ◌+◌, ◌-◌, ◌≤◌, ℤ, pos, ◌+ℤ◌, ◌-ℤ◌, ◌*ℤ◌, unsigned_abs, int_div, max}
use Rattle.std.proofs.Common.{sym, ◌∙◌, arith}
use Rattle.fx_core.specs.Rounding.{power}
use Rattle.fx_routines.specs.declared.operation.ScaledOp.TheVariants.{Convert, Add, Sub, AbsDiff, Mul, Div}
use Rattle.mfx_scaled.specs.declared.binary_points.Points.{Points}
use Rattle.mfx_scaled.specs.Counts.{raised}
use Rattle.mfx_scaled.proofs.Shifts.{convert_at, difference_at, distance_at, product_at, quotient_at, sum_at}
use Rattle.mfx_rules.specs.ScaledRules.{highest}
use Rattle.mfx_rules.specs.ScaledCorners.{form_value}

pub convert_value : (points : Points) (x y n r : ℤ) (a : ℕ) → n ≡ x → a ≡ points.a → r ≡ int_div (raised n a (max a points.c)) (power (max a points.c - points.c)) → r ≡ form_value Convert points x y
unfolding form_value
convert_value points x y n r a i j e = rw (i, j) at e ∙ sym (convert_at x points.a points.c (max points.a points.c) (omega arith) (omega arith))

pub mul_value : (points : Points) (x y n r : ℤ) (a : ℕ) → n ≡ x *ℤ y → a ≡ points.a + points.b → r ≡ int_div (raised n a (max a points.c)) (power (max a points.c - points.c)) → r ≡ form_value Mul points x y
unfolding form_value
mul_value points x y n r a i j e = rw (i, j) at e ∙ sym (product_at x y points.a points.b points.c (max (points.a + points.b) points.c) (omega arith) (omega arith))

pub add_value : (points : Points) (x y n k s r : ℤ) (a b h q : ℕ) → n ≡ x → k ≡ y → a ≡ points.a → b ≡ points.b → h ≡ highest points → s ≡ raised n a h +ℤ raised k b h → q ≡ h → r ≡ int_div s (power (q - points.c)) → r ≡ form_value Add points x y
unfolding form_value
add_value points x y n k s r a b h q i j l m t u v e = rw (v, u, i, j, l, m, t) at e ∙ sym (sum_at x y points.a points.b points.c (highest points) (omega arith) (omega arith) (omega arith))

pub sub_value : (points : Points) (x y n k s r : ℤ) (a b h q : ℕ) → n ≡ x → k ≡ y → a ≡ points.a → b ≡ points.b → h ≡ highest points → s ≡ raised n a h -ℤ raised k b h → q ≡ h → r ≡ int_div s (power (q - points.c)) → r ≡ form_value Sub points x y
unfolding form_value
sub_value points x y n k s r a b h q i j l m t u v e = rw (v, u, i, j, l, m, t) at e ∙ sym (difference_at x y points.a points.b points.c (highest points) (omega arith) (omega arith) (omega arith))

pub abs_diff_value : (points : Points) (x y n k s w r : ℤ) (a b h q p : ℕ) → n ≡ x → k ≡ y → a ≡ points.a → b ≡ points.b → h ≡ highest points → s ≡ raised n a h -ℤ raised k b h → q ≡ h → w ≡ pos (unsigned_abs s) → p ≡ q → r ≡ int_div w (power (p - points.c)) → r ≡ form_value AbsDiff points x y
unfolding form_value
abs_diff_value points x y n k s w r a b h q p i j l m t u v o z e = rw (o, z, v, u, i, j, l, m, t) at e ∙ sym (distance_at x y points.a points.b points.c (highest points) (omega arith) (omega arith) (omega arith))

pub div_value : (points : Points) (x y n k r : ℤ) (a b : ℕ) → n ≡ x → k ≡ y → a ≡ points.a → b ≡ points.b → 1 ≤ unsigned_abs y → r ≡ int_div (raised n a (max a (points.c + b))) (raised k (points.c + b) (max a (points.c + b))) → r ≡ form_value Div points x y
unfolding form_value
div_value points x y n k r a b i j l m some e = rw (i, j, l, m) at e ∙ sym (quotient_at x y points.a (points.c + points.b) (max points.a (points.c + points.b)) (omega arith) (omega arith) some)
