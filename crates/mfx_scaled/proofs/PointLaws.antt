-- Fractions at a binary point, over one denominator, for all points at once. With m a point that none of the others is above, the
-- factor from a to c is 2^(m-a) over 2^(m-c).
use Rattle.std.proofs.Common.{◌≡◌, ℕ, ◌+◌, ◌-◌, ◌*◌, ◌<◌, ◌≤◌, ◌^◌, ℤ, pos, ◌+ℤ◌, ◌-ℤ◌, ◌*ℤ◌, sym, ap, ◌∙◌, subst, arith, inl, inr, le-leb, pow_pos}
use Rattle.std.specs.Prelude.{unsigned_abs}
use Rattle.std.proofs.lemmas.Bool.{lt-leb, cases_lt}
use Rattle.std.proofs.lemmas.Nat.{pow-add}
use Rattle.std.proofs.lemmas.Int.{ints}
use Rattle.fx_fraction.specs.Fraction.{Fraction, whole, over, plus, minus, times, absolute, Is}
use Rattle.fx_fraction.proofs.Denominators.{is_absolute, is_minus, is_over, is_plus, is_renamed, is_scaled, is_times, is_whole}
use Rattle.fx_fraction.proofs.WholeNumbers.{int_mul_assoc}
use Rattle.fx_core.specs.Rounding.{power}
use Rattle.mfx_scaled.specs.Counts.{raised}
use Rattle.mfx_scaled.specs.Formulas.{point_factor}

-- ---- powers of two

-- the power from a to m goes by each c between them
pub powers : (a c m : ℕ) → a ≤ c → c ≤ m → 2 ^ (c - a) * 2 ^ (m - c) ≡ 2 ^ (m - a)
powers a c m h k =
    let e : (c - a) + (m - c) ≡ m - a = omega arith in
    sym (pow-add 2 (c - a) (m - c)) ∙ ap (λ n. 2 ^ n) e

-- a product with 1
pub times_one : (n : ℤ) → n *ℤ pos 1 ≡ n
times_one n = omega (arith, ints)

-- a count that is raised twice
pub raised_twice : (n : ℤ) (a c m : ℕ) → a ≤ c → c ≤ m → raised (raised n a c) c m ≡ raised n a m
raised_twice n a c m h k = int_mul_assoc n (power (c - a)) (power (m - c)) ∙ ap (λ t. n *ℤ pos t) (powers a c m h k)

-- ---- over one denominator

-- the factor from a to c
pub is_point_factor : (a c m : ℕ) → a ≤ m → c ≤ m → Is (point_factor a c) (2 ^ (m - c)) (power (m - a))
unfolding point_factor
is_point_factor a c m h k =
    elim (cases_lt c a) [
      | inl below ↦ rw (lt-leb a c below) (factor_down a c m below h)
      | inr up_to ↦ rw (le-leb a c up_to) (factor_up a c m up_to k)
    ]
  where
    factor_up : (a c m : ℕ) → a ≤ c → c ≤ m → Is (whole (power (c - a))) (2 ^ (m - c)) (power (m - a))
    factor_up a c m up k = subst (λ n. Is (whole (power (c - a))) (2 ^ (m - c)) (pos n)) (powers a c m up k) (is_whole (power (c - a)) (2 ^ (m - c)) (pow_pos (m - c)))

    factor_down : (a c m : ℕ) → c < a → a ≤ m → Is (over (pos 1) (2 ^ (a - c))) (2 ^ (m - c)) (power (m - a))
    factor_down a c m below h =
        let one : 1 * 2 ^ (m - a) ≡ 2 ^ (m - a) = omega arith in
        is_renamed (powers c a m (omega arith) h) (subst (λ n. Is (over (pos 1) (2 ^ (a - c))) (2 ^ (a - c) * 2 ^ (m - a)) (pos n)) one (is_scaled (2 ^ (m - a)) (pow_pos (m - a)) (is_over (pos 1) (2 ^ (a - c)) (pow_pos (a - c)))))

-- a fraction n / d from the point a at the point c: n * 2^(m-a) over d * 2^(m-c)
pub is_at_point : {f : Fraction} {d : ℕ} {n : ℤ} (a c m : ℕ) → a ≤ m → c ≤ m → Is f d n → Is (times f (point_factor a c)) (d * 2 ^ (m - c)) (raised n a m)
is_at_point a c m h k i = is_times i (is_point_factor a c m h k)

-- a sum, a difference and a distance of two such fractions: one denominator for both
pub is_sum_at_point : {f g : Fraction} {d : ℕ} {n k : ℤ} (a b c m : ℕ) → a ≤ m → b ≤ m → c ≤ m → Is f d n → Is g d k → Is (plus (times f (point_factor a c)) (times g (point_factor b c))) (d * 2 ^ (m - c)) (raised n a m +ℤ raised k b m)
is_sum_at_point a b c m p q r i j = is_plus (is_at_point a c m p r i) (is_at_point b c m q r j)

pub is_difference_at_point : {f g : Fraction} {d : ℕ} {n k : ℤ} (a b c m : ℕ) → a ≤ m → b ≤ m → c ≤ m → Is f d n → Is g d k → Is (minus (times f (point_factor a c)) (times g (point_factor b c))) (d * 2 ^ (m - c)) (raised n a m -ℤ raised k b m)
is_difference_at_point a b c m p q r i j = is_minus (is_at_point a c m p r i) (is_at_point b c m q r j)

pub is_distance_at_point : {f g : Fraction} {d : ℕ} {n k : ℤ} (a b c m : ℕ) → a ≤ m → b ≤ m → c ≤ m → Is f d n → Is g d k → Is (absolute (minus (times f (point_factor a c)) (times g (point_factor b c)))) (d * 2 ^ (m - c)) (pos (unsigned_abs (raised n a m -ℤ raised k b m)))
is_distance_at_point a b c m p q r i j = is_absolute (is_difference_at_point a b c m p q r i j)

-- a whole number at a point
pub is_whole_at_point : (n : ℤ) (a c m : ℕ) → a ≤ m → c ≤ m → Is (times (whole n) (point_factor a c)) (2 ^ (m - c)) (raised n a m)
is_whole_at_point n a c m h k =
    let one : 1 * 2 ^ (m - c) ≡ 2 ^ (m - c) = omega arith in
    is_renamed one (subst (λ z. Is (times (whole n) (point_factor a c)) (1 * 2 ^ (m - c)) (z *ℤ power (m - a))) (times_one n) (is_at_point a c m h k (is_whole n 1 (omega arith))))
