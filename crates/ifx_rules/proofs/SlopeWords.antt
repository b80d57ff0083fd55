-- The product of a rise and an error and its quotient rounded up, as words of 128 bits give them.
use Rattle.std.proofs.Common.{◌≡◌, ◌*◌, ◌<◌, ◌^◌, lit<, ℤ, pos, negsuc, ◌*ℤ◌, ◌≤ℤ◌, ◌<ℤ◌, unsigned_abs, FitsSigned, sym, ap, ap₂, ◌∙◌, arith}
use Rattle.std.specs.Int.{w128}
use Rattle.std.proofs.lemmas.Int.{ints, to_z-of_z}
use Rattle.fx_fraction.proofs.WholeNumbers.{int_le-pos, int_le_trans, int_le_of-eq, int_mul-one, int_mul_comm, int_le-mul}
use Rattle.fx_core.specs.Rounding.{least_quotient_above}
use Rattle.fx_core.proofs.RoundingLaws.{least_quotient_above_bounds}
use Rattle.fx_core.proofs.WordSteps.{IsStep, plain, product_step, word_of}
use Rattle.part_rules.proofs.ErrorsGrow.{above_least}
use Rattle.part_rules.proofs.Products.{above_positive}

pub product_word : (rise err : ℤ) → pos 0 ≤ℤ rise → rise <ℤ pos (2 ^ 63) → pos 0 ≤ℤ err → err <ℤ pos (2 ^ 40) → IsStep w128 (word_of w128 rise *ℤ word_of w128 err) (rise *ℤ err) (2 ^ 63 * 2 ^ 40)
product_word rise err low high low' high' = product_step w128 rise err (2 ^ 63) (2 ^ 40) (omega (arith, ints, low, high)) (omega (arith, ints, low', high')) (lit< tt) (lit< tt)

pub product_low : (rise err : ℤ) → pos 0 ≤ℤ rise → pos 0 ≤ℤ err → pos 0 ≤ℤ (rise *ℤ err)
product_low (pos m) (pos n) h k = int_le-pos 0 (m * n) (omega arith)
product_low (negsuc m) err h k = absurd h.le
product_low (pos m) (negsuc n) h k = absurd k.le

-- ---- rounded up

scaled_up : (n d : ℤ) → pos 0 ≤ℤ n → pos 1 ≤ℤ d → n ≤ℤ (n *ℤ d)
scaled_up n d h one = int_le_trans n (n *ℤ pos 1) (n *ℤ d) (int_le_of-eq _ _ (sym (int_mul-one n))) (rw (int_mul_comm n (pos 1), int_mul_comm n d) (int_le-mul (pos 1) d n one h))

pub above_below : (n d : ℤ) → pos 0 ≤ℤ n → pos 1 ≤ℤ d → n <ℤ pos (2 ^ 103) → unsigned_abs (least_quotient_above n d) < 2 ^ 103
above_below n d h one high =
    let low : pos 0 ≤ℤ least_quotient_above n d = above_positive n d (least_quotient_above n d) h one (least_quotient_above_bounds n d one) in
    let small : least_quotient_above n d ≤ℤ n = above_least n d n one (scaled_up n d h one) in
    omega (arith, ints, low, small, high)

-- a quotient rounded up, of numbers that were passed
pub record IsAbove (n d q : ℤ) : Type 0 where
  pub value : word_of w128 q ≡ least_quotient_above n d
  pub size : unsigned_abs (word_of w128 q) < 2 ^ 103

pub quotient_word : (n d q : ℤ) → pos 0 ≤ℤ n → n <ℤ pos (2 ^ 103) → pos 1 ≤ℤ d → FitsSigned w128 d → q ≡ least_quotient_above (word_of w128 n) (word_of w128 d) → IsAbove n d q
quotient_word n d q low high one fits e =
    let plain_n : word_of w128 n ≡ n = omega (arith, ints, low, high) in
    let value : q ≡ least_quotient_above n d = e ∙ ap₂ least_quotient_above plain_n (to_z-of_z w128 d fits) in
    let size = above_below n d low one high in
    let plain_q : word_of w128 (least_quotient_above n d) ≡ least_quotient_above n d = plain w128 _ (omega (arith, size)) in
    record { value = ap (word_of w128) value ∙ plain_q; size = rw (value, plain_q) size }
