-- Whether a gain is a whole number, by the remainder of its absolute value.
use Rattle.std.specs.Prelude.{◌≡◌, ◌%◌, ◌==◌, ℤ, pos, ◌*ℤ◌, unsigned_abs}
use Rattle.std.specs.Bool.{Decides}
use Rattle.std.specs.Ordering.{int_eq}
use Rattle.std.proofs.Common.{arith}
use Rattle.std.proofs.lemmas.Bool.Decides.{Decides-eqb, Decides-int_eq, same_from_decides}
use Rattle.std.proofs.lemmas.Int.{ints}
use Rattle.fx_core.specs.Rounding.{IsLeastQuotientAbove, least_quotient_above}
use Rattle.fx_core.proofs.RoundingLaws.{least_quotient_above_bounds}
use Rattle.efx_rules.specs.FilterRules.{is_whole_gain}

nothing_left : (k q : ℤ) → q *ℤ pos 65536 ≡ k → unsigned_abs k % 65536 ≡ 0
nothing_left k q e = omega (arith, ints, e)

is_multiple : (k q : ℤ) → IsLeastQuotientAbove k (pos 65536) q → unsigned_abs k % 65536 ≡ 0 → q *ℤ pos 65536 ≡ k
is_multiple k q b e = let low = b.0 in let high = b.1 in omega (arith, ints, low, high, e)

pub whole_by_remainder : (k : ℤ) → (unsigned_abs k % 65536 == 0) ≡ is_whole_gain k
whole_by_remainder k =
    let q = least_quotient_above k (pos 65536) in
    let b : IsLeastQuotientAbove k (pos 65536) q = least_quotient_above_bounds k (pos 65536) (omega (arith, ints)) in
    let test = Decides-int_eq (q *ℤ pos 65536) k in
    let whole : Decides (int_eq (q *ℤ pos 65536) k) (unsigned_abs k % 65536 ≡ 0) = (λ h. nothing_left k q (test.0 h), λ e. test.1 (is_multiple k q b e)) in
    same_from_decides _ _ (Decides-eqb (unsigned_abs k % 65536) 0) whole
