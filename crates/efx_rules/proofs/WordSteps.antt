-- Numbers of filters in 128 bits: none goes past an end.
use Rattle.std.proofs.Common.{◌≡◌, ◌<◌, ◌≤◌, ◌^◌, lit<, ℤ, pos, ◌+ℤ◌, ◌*ℤ◌, ◌≤ℤ◌, ◌<ℤ◌, ◌∙◌, ap, arith, FitsSigned, to_z, of_z}
use Rattle.std.specs.Int.{w64, w128}
use Rattle.std.specs.Prelude.{unsigned_abs}
use Rattle.std.proofs.lemmas.Int.{ints, to_z-of_z}
use borrow.Author.Differences.{fits_in}
use Rattle.fx_core.specs.Rounding.{IsLeastQuotientAbove, least_quotient_above}
use Rattle.fx_core.proofs.RoundingLaws.{least_quotient_above_bounds}
use Rattle.fx_core.proofs.WordSteps.{IsStep, word_of}
use Rattle.fx_core.proofs.WordSteps as steps
use Rattle.part_rules.specs.declared.bounds.Bounds.{Bounds}
use Rattle.efx_rules.specs.StateEntries.{IsState}

-- the product of a number of at most 72 bits and a weight of at most 47
pub weighed_step : (n f : ℤ) → unsigned_abs n < 2 ^ 72 → unsigned_abs f ≤ 2 ^ 47 → IsStep w128 (word_of w128 n *ℤ word_of w128 f) (n *ℤ f) (2 ^ 119)
weighed_step n f h k = steps.product_step w128 n f (2 ^ 72) (2 ^ 47) h k (lit< tt) (lit< tt)

-- ---- an error that is divided and rounded

-- the least whole number that isn't below n / 65536, as a word, and half a count more
pub record RoundedWords (n q : ℤ) : Type 0 where
  pub fits : FitsSigned w128 (word_of w128 q +ℤ pos 32768)
  pub value : word_of w128 (word_of w128 q +ℤ pos 32768) ≡ least_quotient_above n (pos 65536) +ℤ pos 32768

record IsAbove (n q : ℤ) : Type 0 where
  low : pos 0 ≤ℤ q
  high : q ≤ℤ n

is_above : (n q : ℤ) → pos 0 ≤ℤ n → IsLeastQuotientAbove n (pos 65536) q → IsAbove n q
is_above n q p b = let below = b.0 in let next = b.1 in record { low = omega (arith, ints, p, below); high = omega (arith, ints, p, next) }

pub rounded_words : (n q : ℤ) → pos 0 ≤ℤ n → n <ℤ pos (2 ^ 104) → q ≡ least_quotient_above (word_of w128 n) (pos 65536) → RoundedWords n q
rounded_words n q low high e =
    let plain : word_of w128 n ≡ n = to_z-of_z w128 n (fits_in w128 n (omega (arith, ints, low, high))) in
    let value : q ≡ least_quotient_above n (pos 65536) = e ∙ ap (λ t. least_quotient_above t (pos 65536)) plain in
    let b : IsLeastQuotientAbove n (pos 65536) q = rw value (least_quotient_above_bounds n (pos 65536) (omega (arith, ints))) in
    let above = is_above n q low b in
    let least = above.low in
    let most = above.high in
    let fits : FitsSigned w128 (q +ℤ pos 32768) = fits_in w128 _ (omega (arith, ints, least, most, high)) in
    let plain_q : word_of w128 q ≡ q = to_z-of_z w128 q (fits_in w128 q (omega (arith, ints, least, most, high))) in
    record {
      fits = rw plain_q fits;
      value = rw plain_q (to_z-of_z w128 _ fits ∙ ap (λ t. t +ℤ pos 32768) value);
    }

-- ---- the error of a state, passed on

pub state_error : (y : Bounds) → IsState y → to_z w64 (of_z w64 y.err) ≡ y.err
state_error y state =
    let low = state.positive in
    let high = state.near in
    to_z-of_z w64 y.err (fits_in w64 y.err (omega (arith, ints, low, high)))
