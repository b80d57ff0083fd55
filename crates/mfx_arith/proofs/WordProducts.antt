-- The product of two numbers of at most 32 bits, as words of 128 bits give it.
use Rattle.std.proofs.Common.{◌≡◌, ℕ, ◌*◌, ◌%◌, ◌<◌, ◌≤◌, ◌^◌, lit<, ℤ, pos, ◌*ℤ◌, ◌∙◌, ap, arith}
use Rattle.std.specs.Int.{w128}
use Rattle.std.specs.Prelude.{unsigned_abs}
use Rattle.std.proofs.Math.Nat.{pow-le-pow_right}
use Rattle.fx_core.specs.Rounding.{power}
use Rattle.fx_core.proofs.WordSteps.{IsStep, word_of}
use Rattle.fx_core.proofs.WordSteps as steps

pub product_step : (n f : ℤ) → unsigned_abs n < 2 ^ 32 → unsigned_abs f < 2 ^ 32 → IsStep w128 (word_of w128 n *ℤ word_of w128 f) (n *ℤ f) (2 ^ 64)
product_step n f h k = steps.product_step w128 n f (2 ^ 32) (2 ^ 32) h (omega (arith, k)) (lit< tt) (lit< tt)

-- one, shifted to the left by at most 15 places in 32 bits
pub record IsShift (s : ℕ) (r : ℤ) : Type 0 where
  pub value : r ≡ power s
  pub size : unsigned_abs r < 2 ^ 32

pub shift_step : (s : ℕ) (r : ℤ) → s ≤ 15 → r ≡ pos ((1 * 2 ^ s) % 4294967296) → IsShift s r
shift_step s r h e =
    let small : 2 ^ s ≤ 2 ^ 15 = pow-le-pow_right (lit< tt) h in
    let same : (1 * 2 ^ s) % 4294967296 ≡ 2 ^ s = omega (arith, small) in
    record { value = e ∙ ap pos same; size = rw (e, same) (omega (arith, small)) }
