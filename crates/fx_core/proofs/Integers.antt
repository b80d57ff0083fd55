-- Orders and products of integers, as the laws of rounding need them.
use Rattle.std.proofs.Common.{◌≡◌, ℕ, zero, ◌+◌, ◌*◌, ◌<◌, ◌≤◌, ℤ, pos, ◌+ℤ◌, ◌-ℤ◌, ◌*ℤ◌, neg_ℤ, ◌≤ℤ◌, ◌<ℤ◌, ◌∙◌, ap, arith, lt_of_mul-lt-mul_right, mul-le-mul_right, le_of_mul-le-mul_right}
use Rattle.std.proofs.lemmas.Int.{ints}
use borrow.Author.Differences.{up, down, below_in, at_most_in, neg_is, same_in}
use lib.IntN.{+ℤ_one, -ℤ_one, suc_ℤ-*ℤ, pred_ℤ-*ℤ}

-- a product is less only where its other factor is
pub less_of_products : (r s : ℤ) (k : ℕ) → (r *ℤ pos k) <ℤ (s *ℤ pos k) → r <ℤ s
less_of_products r s k h =
    let e : (up r + down s) * k < (up s + down r) * k = omega (arith, ints, h) in
    below_in r s (lt_of_mul-lt-mul_right k e)

-- and at most only where its other factor is, if the common one is not 0
pub le_of_products : (r s : ℤ) (k : ℕ) → pos 1 ≤ℤ pos k → (r *ℤ pos k) ≤ℤ (s *ℤ pos k) → r ≤ℤ s
le_of_products r s k one h =
    let e : (up r + down s) * k ≤ (up s + down r) * k = omega (arith, ints, h) in
    let p : zero < k = omega (arith, ints, one) in
    at_most_in r s (le_of_mul-le-mul_right e p)

-- a product with a natural keeps the order
pub products_order : (r s : ℤ) (k : ℕ) → r ≤ℤ s → (r *ℤ pos k) ≤ℤ (s *ℤ pos k)
products_order r s k h =
    let sum : up r + down s ≤ up s + down r = omega (arith, ints, h) in
    let e : (up r + down s) * k ≤ (up s + down r) * k = mul-le-mul_right k sum in
    at_most_in _ _ (omega (arith, ints))

-- the product of the next whole number, and of the one before
pub next-*ℤ : (r d : ℤ) → (r +ℤ pos 1) *ℤ d ≡ r *ℤ d +ℤ d
next-*ℤ r d = ap (λ t. t *ℤ d) (+ℤ_one r) ∙ suc_ℤ-*ℤ r d

pub previous-*ℤ : (r d : ℤ) → (r -ℤ pos 1) *ℤ d ≡ r *ℤ d -ℤ d
previous-*ℤ r d = ap (λ t. t *ℤ d) (-ℤ_one r) ∙ pred_ℤ-*ℤ r d

-- a sign moves out of a product
pub neg-*ℤ : (r : ℤ) (k : ℕ) → neg_ℤ r *ℤ pos k ≡ neg_ℤ (r *ℤ pos k)
neg-*ℤ r k =
    same_in _ _ (omega (arith, ints, ap (λ t. t * k) (neg_is r).0, ap (λ t. t * k) (neg_is r).1))
