-- A half added and a shift to the right, as words give them, round to the nearest.
use Rattle.std.proofs.Common.{◌≡◌, ℕ, ◌+◌, ◌-◌, ◌*◌, ◌<◌, ◌≤◌, ◌^◌, lit≤, ℤ, pos, negsuc, ◌+ℤ◌, ◌*ℤ◌, refl, ◌∙◌, ap, arith}
use Rattle.std.specs.Prelude.{unsigned_abs}
use Rattle.std.specs.Int.{int_div_euclid, w64, w128}
use Rattle.std.proofs.lemmas.Int.{ints, to_z-of_z, fits_signed_from_abs}
use borrow.Author.Differences.{below_in, at_most_in}
use lib.Signed.{shr_z}
use mir.Syntax.{Width}
use mir.Val.{hbits}
use Rattle.fx_core.specs.declared.quotient.Mode.TheVariants.{Near}
use Rattle.fx_core.specs.Rounding.{floor_quotient, rounded}
use Rattle.fx_core.proofs.Integers.{next-*ℤ}
use Rattle.fx_core.proofs.RoundingLaws.{floor_quotient_bounds, rounded_from_rounds}
use Rattle.fx_core.proofs.WordSteps.{word_of, sum_step}

-- a shift to the right rounds downward
shift_floors : (m : ℤ) → shr_z m 65536 ≡ floor_quotient m (pos 65536)
shift_floors (pos m) = refl
shift_floors (negsuc m) = refl

-- with a half added before it, it rounds to the nearest
shift_rounds : (n : ℤ) → shr_z (n +ℤ pos 32768) 65536 ≡ rounded Near n (pos 65536)
shift_rounds n =
    let r = floor_quotient (n +ℤ pos 32768) (pos 65536) in
    let bounds = floor_quotient_bounds (n +ℤ pos 32768) 65536 (record { le = tt }) in
    let next : (r +ℤ pos 1) *ℤ pos 65536 ≡ r *ℤ pos 65536 +ℤ pos 65536 = next-*ℤ r (pos 65536) in
    let high = rw next at bounds.1 in
    shift_floors (n +ℤ pos 32768) ∙ rounded_from_rounds Near n (pos 65536) r (record { le = tt }) (below_in _ _ (omega (arith, ints, high)), at_most_in _ _ (omega (arith, ints, bounds.0)))

-- and makes no number greater in size
shift_small : (m : ℤ) → unsigned_abs (shr_z m 65536) ≤ unsigned_abs m
shift_small m =
    let r = floor_quotient m (pos 65536) in
    let bounds = floor_quotient_bounds m 65536 (record { le = tt }) in
    let next : (r +ℤ pos 1) *ℤ pos 65536 ≡ r *ℤ pos 65536 +ℤ pos 65536 = next-*ℤ r (pos 65536) in
    let high = rw next at bounds.1 in
    rw (shift_floors m) (omega (arith, ints, bounds.0, high))

-- the same of words
shift_word : (w : Width) (n h : ℤ) (limit : ℕ) → h ≡ pos 32768 → unsigned_abs n < limit → limit + 32769 ≤ 2 ^ hbits w → word_of w (shr_z (word_of w (word_of w n +ℤ word_of w h)) 65536) ≡ rounded Near n (pos 65536)
shift_word w n h limit e small room =
    let sum = sum_step w n h limit 32769 small (rw e (omega arith)) room in
    let size = rw sum.value at sum.size in
    let small_sum : unsigned_abs (n +ℤ h) < 2 ^ hbits w = omega (arith, size, room) in
    let fits = fits_signed_from_abs w (shr_z (n +ℤ h) 65536) (omega (arith, shift_small (n +ℤ h), small_sum)) in
    ap (λ m. word_of w (shr_z m 65536)) sum.value ∙ to_z-of_z w _ fits ∙ ap (λ t. shr_z (n +ℤ t) 65536) e ∙ shift_rounds n

pub shift_word_64 : (n : ℤ) → unsigned_abs n ≤ 2 ^ 63 - 2 ^ 31 → word_of w64 (shr_z (word_of w64 (word_of w64 n +ℤ pos 32768)) 65536) ≡ rounded Near n (pos 65536)
shift_word_64 n h = shift_word w64 n (pos 32768) (2 ^ 63 - 2 ^ 31 + 1) refl (omega (arith, h)) (lit≤ tt)

pub shift_word_128 : (n h : ℤ) → h ≡ pos 32768 → unsigned_abs n < 2 ^ 96 → word_of w128 (shr_z (word_of w128 (word_of w128 n +ℤ word_of w128 h)) 65536) ≡ rounded Near n (pos 65536)
shift_word_128 n h e small = shift_word w128 n h (2 ^ 96) e small (lit≤ tt)

-- ---- means

-- twice a sum and a count more, over twice the count, is the mean to the nearest
pub mean_rounds : (sum : ℤ) (n : ℕ) → int_div_euclid (pos 2 *ℤ sum +ℤ pos n) (pos 2 *ℤ pos n) ≡ rounded Near sum (pos n)
unfolding rounded
mean_rounds sum n = euclid_floors (pos 2 *ℤ sum +ℤ pos n) (2 * n)
  where
    euclid_floors : (m : ℤ) (k : ℕ) → int_div_euclid m (pos k) ≡ floor_quotient m (pos k)
    euclid_floors (pos m) k = refl
    euclid_floors (negsuc m) k = refl
