-- Products and sums of numbers of limited size, as words give them.
use Rattle.std.proofs.Common.{◌≡◌, ◌∙◌, ℕ, ◌+◌, ◌*◌, ◌<◌, ◌≤◌, ◌^◌, lit<, lit≤, ℤ, pos, ◌+ℤ◌, ◌-ℤ◌, ◌*ℤ◌, arith, sym}
use Rattle.std.specs.Prelude.{unsigned_abs}
use Rattle.std.specs.Int.{w64, w128}
use Rattle.std.proofs.lemmas.Int.{to_z-of_z}
use Rattle.fx_core.proofs.WordSteps.{IsStep, difference_step, plain, product_step, sum_step, word_of}

-- a share of a gain, both passed on to 64 bits
pub part_step : (share : ℕ) (k s f : ℤ) → share ≤ 131072 → unsigned_abs k ≤ 2 ^ 31 → s ≡ pos share → f ≡ k → IsStep w64 (word_of w64 s *ℤ word_of w64 f) (pos share *ℤ k) (131073 * 2 ^ 31)
part_step share k s f few small e e' = rw (e, e') (product_step w64 (pos share) k 131073 (2 ^ 31) (omega (arith, few)) small (lit< tt) (lit< tt))

-- an input and its weight, both passed on to 128 bits
pub weighted_step : (n v p q : ℤ) → unsigned_abs n < 2 ^ 32 → unsigned_abs v < 2 ^ 49 → p ≡ word_of w64 n → q ≡ word_of w64 v → IsStep w128 (word_of w128 p *ℤ word_of w128 q) (n *ℤ v) (2 ^ 81)
weighted_step n v p q h k e e' =
    let first : p ≡ n = e ∙ plain w64 n (omega (arith, h)) in
    let second : q ≡ v = e' ∙ plain w64 v (omega (arith, k)) in
    rw (first, second) (product_step w128 n v (2 ^ 32) (2 ^ 49) h (omega (arith, k)) (lit< tt) (lit< tt))

-- the difference of two weighted inputs
pub moved_step : (a b : ℤ) → unsigned_abs a < 2 ^ 81 → unsigned_abs b < 2 ^ 81 → IsStep w128 (word_of w128 a -ℤ word_of w128 b) (a -ℤ b) (2 ^ 82)
moved_step a b h k = difference_step w128 a b (2 ^ 81) (2 ^ 81) h k (lit≤ tt)

-- a state and that difference
pub state_step : (s a b : ℤ) → unsigned_abs s < 2 ^ 64 → unsigned_abs a < 2 ^ 81 → unsigned_abs b < 2 ^ 81 → IsStep w128 (word_of w128 s +ℤ word_of w128 (word_of w128 a -ℤ word_of w128 b)) (s +ℤ (a -ℤ b)) (2 ^ 64 + 2 ^ 82)
state_step s a b l h k =
    let moved = moved_step a b h k in
    let exact : word_of w128 a -ℤ word_of w128 b ≡ a -ℤ b = sym (to_z-of_z w128 (word_of w128 a -ℤ word_of w128 b) moved.fits) ∙ moved.value in
    let small : unsigned_abs (a -ℤ b) < 2 ^ 82 = rw moved.value at moved.size in
    rw exact (sum_step w128 s (a -ℤ b) (2 ^ 64) (2 ^ 82) l small (lit≤ tt))
