-- How large counts get: a raw count of 32 bits, raised by at most 30 places.
use Rattle.std.proofs.Common.{◌≡◌, ◌∙◌, arith, ℕ, ◌<◌, ◌≤◌, ◌^◌, lit<, lit≤, ℤ, ◌+ℤ◌, ◌-ℤ◌, ◌*ℤ◌}
use Rattle.std.specs.Int.{w64, w128}
use Rattle.std.specs.Prelude.{unsigned_abs}
use Rattle.std.proofs.Math.Nat.{pow-le-pow_right}
use Rattle.fx_core.proofs.WordSteps.{IsStep, word_of}
use Rattle.fx_core.proofs.WordSteps as steps

pub power_small : (k : ℕ) → k ≤ 30 → 2 ^ k ≤ 2 ^ 30
power_small k h = pow-le-pow_right (lit< tt) h

abbrev pub word : ℤ → ℤ
word z = word_of w64 z

-- sums and differences of two counts that were raised, as the code's words give them
pub sum_step : (s t : ℤ) → unsigned_abs s < 2 ^ 62 → unsigned_abs t < 2 ^ 62 → IsStep w64 (word s +ℤ word t) (s +ℤ t) (2 ^ 63)
sum_step s t h k = steps.sum_step w64 s t (2 ^ 62) (2 ^ 62) h k (lit≤ tt)

pub difference_step : (s t : ℤ) → unsigned_abs s < 2 ^ 62 → unsigned_abs t < 2 ^ 62 → IsStep w64 (word s -ℤ word t) (s -ℤ t) (2 ^ 63)
difference_step s t h k = steps.difference_step w64 s t (2 ^ 62) (2 ^ 62) h k (lit≤ tt)

-- products by a power of two
pub raised_step : (n f : ℤ) → unsigned_abs n < 2 ^ 32 → unsigned_abs f ≤ 2 ^ 30 → IsStep w64 (word n *ℤ word f) (n *ℤ f) (2 ^ 62)
raised_step n f h k = steps.product_step w64 n f (2 ^ 32) (2 ^ 30) h k (lit< tt) (lit< tt)

-- the product of two counts, passed on to 128 bits
pub wide_product : (n f m g : ℤ) → unsigned_abs n < 2 ^ 32 → unsigned_abs f < 2 ^ 32 → m ≡ word n → g ≡ word f → IsStep w128 (word_of w128 m *ℤ word_of w128 g) (n *ℤ f) (2 ^ 64)
wide_product n f m g h k e e' =
    let first : m ≡ n = e ∙ steps.plain w64 n (omega (arith, h)) in
    let second : g ≡ f = e' ∙ steps.plain w64 f (omega (arith, k)) in
    rw (first, second) (steps.product_step w128 n f (2 ^ 32) (2 ^ 32) h (omega (arith, k)) (lit< tt) (lit< tt))
