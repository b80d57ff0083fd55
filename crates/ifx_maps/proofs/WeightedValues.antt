-- Sums of values with weights, as words give them.
use Rattle.std.proofs.Common.{◌≡◌, ℕ, ◌+◌, ◌*◌, ◌<◌, ◌≤◌, ◌^◌, lit≤, ℤ, pos, ◌*ℤ◌, ◌+ℤ◌, arith, mul-le-mul}
use Rattle.std.specs.Int.{w64}
use Rattle.std.specs.Prelude.{unsigned_abs}
use Rattle.std.proofs.lemmas.Int.{ints, unsigned_abs-mul}
use Rattle.fx_core.proofs.WordSteps.{product_step}
use Rattle.ifx_curves.proofs.Means.{word}

-- the product of a value of 16 bits and a weight
product_small : (v : ℤ) (m : ℕ) → unsigned_abs v < 65536 → unsigned_abs (v *ℤ pos m) ≤ 65535 * m
product_small v m h = omega (arith, unsigned_abs-mul v (pos m), mul-le-mul {m₂ = m} (most (unsigned_abs v) h) (self m))
  where
    most : (n : ℕ) → n < 65536 → n ≤ 65535
    most n h = omega (arith, h)

    self : (m : ℕ) → m ≤ m
    self m = omega arith

pub sum_small : (v u : ℤ) (m n : ℕ) → unsigned_abs v < 65536 → unsigned_abs u < 65536 → m + n ≤ 65536 → unsigned_abs (v *ℤ pos m +ℤ u *ℤ pos n) < 2 ^ 32
sum_small v u m n h k few = omega (arith, ints, product_small v m h, product_small u n k, few)

-- the product of two spans
pub spans_word : (a b : ℤ) (m n : ℕ) → a ≡ pos m → b ≡ pos n → m ≤ 65536 → n ≤ 65536 → word (word a *ℤ word b) ≡ pos (m * n)
spans_word a b m n p q h k = rw (p, q) (product_step w64 (pos m) (pos n) 65537 65536 (omega (arith, h)) (omega (arith, k)) (lit≤ tt) (lit≤ tt)).value
