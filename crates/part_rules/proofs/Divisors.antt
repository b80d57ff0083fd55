-- A divisor that may not be 0: how far from 0 it stays, and the error of a quotient by it.
use Rattle.std.specs.Prelude.{◌≡◌, ℕ, ◌+◌, ◌*◌, ◌≤◌, ◌^◌, ◌⊎◌, Bool, true, false, ◌&&◌, ◌||◌, ℤ, pos, negsuc, ◌+ℤ◌, ◌-ℤ◌, ◌*ℤ◌, ◌≤ℤ◌, ◌<ℤ◌, int_le, unsigned_abs, if◌then◌else◌}
use Rattle.std.specs.Int.{int_min}
use Rattle.std.proofs.Common.{refl, ap, ◌∙◌, subst, arith, inl, inr, pow_pos}
use Rattle.std.proofs.lemmas.Int.{ints, clamps}
use native.Mathlib.Nat.{mul-pos}
use Rattle.fx_fraction.proofs.WholeNumbers.{int_le-pos, int_is_natural, le_of-int_le, int_le-false}
use Rattle.fx_core.specs.Rounding.{IsLeastQuotientAbove, least_quotient_above, power}
use Rattle.fx_core.proofs.RoundingLaws.{least_quotient_above_bounds}
use Rattle.part_rules.specs.declared.bounds.Bounds.{Bounds}
use Rattle.part_rules.specs.Errors.{mignitude, may_be_zero, quotient_error}
use Rattle.part_rules.proofs.CornerHulls.{IsInside}
use Rattle.part_rules.proofs.Products.{above_positive}

-- ---- how far from 0 a divisor stays

-- a range on one side of 0
abbrev pub IsOneSided : ℤ → ℤ → Type 0
IsOneSided lo hi = (pos 1 ≤ℤ lo) ⊎ (hi ≤ℤ negsuc 0)

-- a range whose numbers are at least `least` from 0, and whose error is less
pub record StaysAway (y : Bounds) (least : ℕ) : Type 0 where
  pub is : mignitude y ≡ pos least
  pub side : IsOneSided y.lo y.hi
  pub error : y.err <ℤ pos (65536 * least)
  pub away : (n : ℤ) → IsInside y.lo y.hi n → least ≤ unsigned_abs n

away_of : (lo hi n : ℤ) → IsOneSided lo hi → IsInside lo hi n → unsigned_abs (int_min (pos (unsigned_abs lo)) (pos (unsigned_abs hi))) ≤ unsigned_abs n
away_of lo hi n (inl h) i = let low = i.low in let high = i.high in omega (arith, ints, clamps, h, low, high)
away_of lo hi n (inr h) i = let low = i.low in let high = i.high in omega (arith, ints, clamps, h, low, high)

end_natural : (lo hi : ℤ) → int_min (pos (unsigned_abs lo)) (pos (unsigned_abs hi)) ≡ pos (unsigned_abs (int_min (pos (unsigned_abs lo)) (pos (unsigned_abs hi))))
end_natural lo hi = int_is_natural _ (omega (arith, ints, clamps))

record Sides (lo hi err : ℤ) (both : Bool) : Type 0 where
  apart : both ≡ false
  side : IsOneSided lo hi
  error : err <ℤ (pos 65536 *ℤ int_min (pos (unsigned_abs lo)) (pos (unsigned_abs hi)))

sides_of : (lo hi err : ℤ) (s t : Bool) → int_le lo (pos 0) ≡ s → int_le (pos 0) hi ≡ t → ((s && t) || int_le (pos 65536 *ℤ (if s && t then pos 0 else int_min (pos (unsigned_abs lo)) (pos (unsigned_abs hi)))) err) ≡ false → Sides lo hi err (s && t)
sides_of lo hi err true true e f h = absurd (cc)
sides_of lo hi err true false e f h = record { apart = refl; side = inr (omega (arith, ints, f)); error = int_le-false _ _ h }
sides_of lo hi err false t e f h = record { apart = refl; side = inl (omega (arith, ints, e)); error = int_le-false _ _ h }

pub stays_away : (y : Bounds) → may_be_zero y ≡ false → StaysAway y (unsigned_abs (mignitude y))
stays_away y h =
    let s = sides_of y.lo y.hi y.err _ _ refl refl h in
    let m = int_min (pos (unsigned_abs y.lo)) (pos (unsigned_abs y.hi)) in
    let same : mignitude y ≡ m = ap (λ t. if t then pos 0 else m) s.apart in
    let natural : m ≡ pos (unsigned_abs m) = end_natural y.lo y.hi in
    let error : y.err <ℤ (pos 65536 *ℤ pos (unsigned_abs m)) = subst (λ k. y.err <ℤ (pos 65536 *ℤ k)) natural s.error in
    rw same (record {
      is = same ∙ natural;
      side = s.side;
      error = error;
      away = λ n i. away_of y.lo y.hi n s.side i;
    })

-- ---- the error of a quotient as a natural

pub record IsQuotientError (k : ℕ) (top err : ℤ) (y : Bounds) (M E F L W : ℕ) : Type 0 where
  pub rest : ℕ
  pub is : quotient_error k top err y ≡ pos (rest + 65536)
  pub above : 65536 * (M * F + L * E) ≤ rest * (L * W * 2 ^ k)

pub natural_above : (n d q : ℤ) (N D Q : ℕ) → n ≡ pos N → d ≡ pos D → q ≡ pos Q → n ≤ℤ (q *ℤ d) → N ≤ Q * D
natural_above n d q N D Q h k p low = le_of-int_le _ _ (rw (h, k, p) at low)

pub dividend_natural : (top err fel least : ℤ) (M E F L : ℕ) → top ≡ pos M → err ≡ pos E → fel ≡ pos F → least ≡ pos L → pos 65536 *ℤ (top *ℤ fel +ℤ least *ℤ err) ≡ pos (65536 * (M * F + L * E))
dividend_natural top err fel least M E F L h k p q = rw (h, k, p, q) refl

left_over : (F L W : ℕ) → W + F ≡ 65536 * L → pos (65536 * L) -ℤ pos F ≡ pos W
left_over F L W h = omega (arith, ints, h)

pub divisor_natural : (fel least : ℤ) (F L W : ℕ) → fel ≡ pos F → least ≡ pos L → W + F ≡ 65536 * L → least *ℤ (pos 65536 *ℤ least -ℤ fel) ≡ pos (L * W)
divisor_natural fel least F L W h k e = rw (h, k, left_over F L W e) refl

pub quotient_error_of : (k : ℕ) (top err : ℤ) (y : Bounds) (M E F L W : ℕ) → top ≡ pos M → err ≡ pos E → y.err ≡ pos F → mignitude y ≡ pos L → W + F ≡ 65536 * L → 1 ≤ L → 1 ≤ W → IsQuotientError k top err y M E F L W
unfolding quotient_error
quotient_error_of k top err y M E F L W h i p q e some some' =
    let n = pos 65536 *ℤ (top *ℤ y.err +ℤ mignitude y *ℤ err) in
    let d = mignitude y *ℤ (pos 65536 *ℤ mignitude y -ℤ y.err) *ℤ power k in
    let n' : n ≡ pos (65536 * (M * F + L * E)) = dividend_natural _ _ _ _ M E F L h i p q in
    let d' : d ≡ pos (L * W * 2 ^ k) = ap (λ t. t *ℤ power k) (divisor_natural _ _ F L W p q e) in
    let one : pos 1 ≤ℤ d = rw d' (int_le-pos _ _ (mul-pos (mul-pos some some') (pow_pos k))) in
    let r = least_quotient_above n d in
    let b : IsLeastQuotientAbove n d r = least_quotient_above_bounds n d one in
    let natural : r ≡ pos (unsigned_abs r) = int_is_natural r (above_positive n d r (rw n' (int_le-pos _ _ (omega arith))) one b) in
    record {
      rest = unsigned_abs r;
      is = ap (λ t. t +ℤ pos 65536) natural;
      above = natural_above n d r _ _ _ n' d' natural b.0;
    }
