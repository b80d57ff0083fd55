-- The error of a quotient whose divisor is shifted to the left: it moves with the divisor, and no other error comes in.
use Rattle.std.proofs.Common.{◌≡◌, ℕ, ◌+◌, ◌-◌, ◌*◌, ◌≤◌, ◌<◌, ◌^◌, false, ℤ, pos, ◌-ℤ◌, ◌*ℤ◌, ◌≤ℤ◌, refl, sym, ap, ap₂, ◌∙◌, arith, max, mul-le-mul_right, pow_pos}
use Rattle.std.specs.Prelude.{unsigned_abs}
use Rattle.std.proofs.lemmas.Int.{ints}
use native.Mathlib.Nat.{mul-pos}
use Rattle.fx_fraction.specs.Fraction.{Fraction, whole, times, divided, is_zero}
use Rattle.fx_fraction.proofs.Denominators.{is_divided_signed, common_two}
use Rattle.fx_fraction.proofs.WholeNumbers.{int_is_natural, int_mul_right_comm, unsigned_abs-mul_pos, unsigned_abs-sub-mul, with_sign}
use Rattle.fx_core.specs.Rounding.{power}
use Rattle.mfx_scaled.specs.Counts.{raised}
use Rattle.mfx_scaled.proofs.Shifts.{divisor_shifted, is_shifted_left}
use Rattle.part_rules.specs.declared.bounds.Bounds.{Bounds}
use Rattle.part_rules.specs.Within.{IsWithin}
use Rattle.part_rules.specs.Errors.{mignitude, may_be_zero, quotient_error}
use Rattle.mfx_rules.proofs.ScaledDistances.{places_left, places_right}
use Rattle.part_rules.proofs.Nearness.{Near}
use Rattle.part_rules.proofs.Products.{near_numerators, near_positive, numerators_near}
use Rattle.part_rules.proofs.Divisors.{StaysAway, quotient_error_of, stays_away}
use Rattle.part_rules.proofs.Quotients.{IsDivision, division_divides, division_numerators, not_zero_case}

-- ---- the error as a natural

-- both sides times K
above_times : (M E F L W Q K : ℕ) → 65536 * (M * F + L * E) ≤ Q * (L * W * K) → 65536 * (M * (F * K) + L * K * E) ≤ Q * (L * K * (W * K))
above_times M E F L W Q K h =
    let all : 65536 * (M * F + L * E) * K ≤ Q * (L * W * K) * K = mul-le-mul_right K h in
    omega (arith, all)

apart_times : (F L W K : ℕ) → W + F ≡ 65536 * L → W * K + F * K ≡ 65536 * (L * K)
apart_times F L W K h =
    let both : (W + F) * K ≡ 65536 * L * K = ap (λ t. t * K) h in
    omega (arith, both)

-- ---- the divisor, shifted

divisor_times : (n y : ℤ) (F d K : ℕ) → unsigned_abs (n *ℤ pos d -ℤ y) * 65536 ≤ F * d → unsigned_abs (n *ℤ pos K *ℤ pos d -ℤ y *ℤ pos K) * 65536 ≤ F * K * d
divisor_times n y F d K h =
    let apart : unsigned_abs (n *ℤ pos K *ℤ pos d -ℤ y *ℤ pos K) ≡ unsigned_abs (n *ℤ pos d -ℤ y) * K = rw (int_mul_right_comm n (pos K) (pos d)) (unsigned_abs-sub-mul (n *ℤ pos d) y (pos K)) in
    let all : unsigned_abs (n *ℤ pos d -ℤ y) * 65536 * K ≤ F * d * K = mul-le-mul_right K h in
    rw apart (omega (arith, all))

least_times : (n : ℤ) (L K : ℕ) → L ≤ unsigned_abs n → L * K ≤ unsigned_abs (n *ℤ pos K)
least_times n L K h = rw (unsigned_abs-mul_pos n K) (mul-le-mul_right K h)

-- the quotient of a dividend within `top` and a divisor that may not be 0, k places to the left, rounded to less than one away
pub record DividesRaised (k : ℕ) (m n : ℤ) (e f : Fraction) (top err : ℤ) (y : Bounds) : Type 0 where
  pub divisor : is_zero f ≡ false
  pub near : (r : ℤ) → unsigned_abs (r *ℤ (n *ℤ power k) -ℤ m) < unsigned_abs (n *ℤ power k) → Near (whole r) (divided e (times f (whole (power k)))) (quotient_error k top err y)

pub divides_raised : (k : ℕ) (m n : ℤ) (e f : Fraction) (top err : ℤ) (y : Bounds) → pos 0 ≤ℤ top → unsigned_abs m ≤ unsigned_abs top → Near (whole m) e err → IsWithin y n f → may_be_zero y ≡ false → DividesRaised k m n e f top err y
divides_raised k m n e f top err y h size p q away =
    let c = common_two e f in
    let K = 2 ^ k in
    let least = unsigned_abs (mignitude y) in
    let a : StaysAway y least = stays_away y away in
    let second : Near (whole n) f y.err = record { near = q.near } in
    let positive : pos 0 ≤ℤ y.err = near_positive n y.err f second in
    let error = a.error in
    let F = unsigned_abs y.err in
    let W = 65536 * least - F in
    let left : 1 ≤ W = omega (arith, ints, positive, error) in
    let apart : W + F ≡ 65536 * least = omega (arith, ints, left) in
    let some : 1 ≤ least = omega (arith, left) in
    let i : IsDivision m (n *ℤ pos K) c.x (c.y *ℤ pos K) (unsigned_abs top) (least * K) (unsigned_abs err) (F * K) (W * K) c.bottom = record {
      positive = c.first.positive;
      top = size;
      dividend = near_numerators m err c.x c.bottom e c.first p;
      least = least_times n least K (a.away n (record { low = q.low; high = q.high }));
      divisor = divisor_times n c.y F c.bottom K (near_numerators n y.err c.y c.bottom f c.second second);
      some = mul-pos some (pow_pos k);
      left = mul-pos left (pow_pos k);
      apart = apart_times F least W K apart;
    } in
    let reached : 1 ≤ unsigned_abs (c.y *ℤ pos K) = division_divides _ _ _ _ _ _ _ _ _ _ i in
    let shifted = is_shifted_left k c.second in
    let rule = quotient_error_of k top err y (unsigned_abs top) (unsigned_abs err) F least W (int_is_natural top h) (int_is_natural err (near_positive m err e p)) (int_is_natural y.err positive) a.is apart some left in
    record {
      divisor = sym (divisor_shifted f k) ∙ not_zero_case (times f (whole (power k))) c.bottom (c.y *ℤ pos K) _ refl shifted reached;
      near = λ r t. rw rule.is (numerators_near r (with_sign (c.y *ℤ pos K) c.x) (rule.rest + 65536) (unsigned_abs (c.y *ℤ pos K)) (divided e (times f (whole (power k)))) (is_divided_signed (c.y *ℤ pos K) reached c.first shifted) (division_numerators m (n *ℤ pos K) c.x (c.y *ℤ pos K) r _ _ _ _ _ rule.rest c.bottom i (above_times (unsigned_abs top) (unsigned_abs err) F least W rule.rest K rule.above) t));
    }

-- the rule's places are those from the higher of the dividend's point and the divisor's, p
pub quotient_error_is : (a p : ℕ) (top err : ℤ) (y : Bounds) → quotient_error (max a p - p) (raised top a (max a p)) (raised err a (max a p)) y ≡ quotient_error (a - p) (top *ℤ power (p - a)) (err *ℤ power (p - a)) y
quotient_error_is a p top err y = ap₂ (λ k j. quotient_error k (top *ℤ power j) (err *ℤ power j) y) (places_right a p) (places_left a p)

pub over_error : (a p h : ℕ) (t e top err : ℤ) (y : Bounds) → h ≡ max a p → t ≡ raised top a h → e ≡ raised err a h → quotient_error (h - p) t e y ≡ quotient_error (a - p) (top *ℤ power (p - a)) (err *ℤ power (p - a)) y
over_error a p h t e top err y i j k = rw (j, k, i) (quotient_error_is a p top err y)
