-- Quotients of whole numbers, rounded toward zero: their value, how far it is from the quotient, and where it lies between
-- the ends of ranges.
use Rattle.std.specs.Prelude.{◌≡◌, ℕ, zero, suc, ◌*◌, ◌/◌, ◌≤◌, ◌<◌, ℤ, pos, negsuc, neg_ℤ, ◌-ℤ◌, ◌*ℤ◌, ◌≤ℤ◌, unsigned_abs, int_div}
use Rattle.std.proofs.Common.{refl, arith, inl, inr, div-mul-le_self, le-div_iff_mul-le, mul-le-mul_left}
use Rattle.std.proofs.Math.Nat.{zero-div}
use Rattle.std.proofs.lemmas.Int.{ints}
use Rattle.fx_fraction.proofs.Polynomials.{differences, as_difference}
use Rattle.fx_core.specs.declared.quotient.Mode.TheVariants.{Zero}
use Rattle.fx_core.specs.Rounding.{rounded}
use Rattle.fx_core.proofs.RoundingLaws.{int_div_order, rounded-error}
use Rattle.part_rules.proofs.CornerHulls.{IsUp, IsBetween, IsInside, LiesBetween}
use Rattle.part_rules.proofs.Divisors.{IsOneSided}

-- the sign of the divisor moves to the dividend
pub int_div-negsuc : (n : ℤ) (k : ℕ) → int_div (neg_ℤ n) (pos (suc k)) ≡ int_div n (negsuc k)
int_div-negsuc (pos zero) k = rw zero-div refl
int_div-negsuc (pos (suc n)) k = refl
int_div-negsuc (negsuc n) k = refl

-- a quotient rounded toward zero is less than one away from the exact one
positive_error : (n : ℤ) (k : ℕ) → unsigned_abs (int_div n (pos (suc k)) *ℤ pos (suc k) -ℤ n) < suc k
unfolding rounded
positive_error n k = rounded-error Zero n (pos (suc k)) (omega (arith, ints))

turned : (r n : ℤ) (k : ℕ) → unsigned_abs (r *ℤ negsuc k -ℤ n) ≡ unsigned_abs (r *ℤ pos (suc k) -ℤ neg_ℤ n)
turned r n k = rw (as_difference r, as_difference n) (simp differences (omega arith))

pub int_div-error : (n d : ℤ) → 1 ≤ unsigned_abs d → unsigned_abs (int_div n d *ℤ d -ℤ n) < unsigned_abs d
int_div-error n (pos zero) h = absurd (omega arith)
int_div-error n (pos (suc k)) h = positive_error n k
int_div-error n (negsuc k) h = rw (← (int_div-negsuc n k)) (rw (turned (int_div (neg_ℤ n) (pos (suc k))) n k) (positive_error (neg_ℤ n) k))

-- ---- between the ends of a range of dividends

negated : (n p : ℤ) → n ≤ℤ p → neg_ℤ p ≤ℤ neg_ℤ n
negated n p h = omega (arith, ints, h)

order_by_positive : (n p : ℤ) (k : ℕ) → n ≤ℤ p → int_div n (pos (suc k)) ≤ℤ int_div p (pos (suc k))
order_by_positive n p k h = int_div_order n p (suc k) (omega (arith, ints)) h

order_by_negative : (n p : ℤ) (k : ℕ) → n ≤ℤ p → int_div p (negsuc k) ≤ℤ int_div n (negsuc k)
order_by_negative n p k h = rw (← (int_div-negsuc n k), ← (int_div-negsuc p k)) (order_by_positive (neg_ℤ p) (neg_ℤ n) k (negated n p h))

up_by : (z a v b : ℤ) → 1 ≤ unsigned_abs z → IsUp a v b → IsBetween (int_div a z) (int_div v z) (int_div b z)
up_by (pos zero) a v b h i = absurd (omega arith)
up_by (pos (suc k)) a v b h i = inl (record { low = order_by_positive a v k i.low; high = order_by_positive v b k i.high })
up_by (negsuc k) a v b h i = inr (record { low = order_by_negative v b k i.high; high = order_by_negative a v k i.low })

exchanged : (a v b : ℤ) → IsBetween a v b → IsBetween b v a
exchanged a v b (inl i) = inr i
exchanged a v b (inr i) = inl i

-- a quotient lies between where its dividend does
pub between_quotients : (z a v b : ℤ) → 1 ≤ unsigned_abs z → IsBetween a v b → IsBetween (int_div a z) (int_div v z) (int_div b z)
between_quotients z a v b h (inl i) = up_by z a v b h i
between_quotients z a v b h (inr i) = exchanged _ _ _ (up_by z b v a h i)

pub quotient_first : (z a b : ℤ) → 1 ≤ unsigned_abs z → LiesBetween (λ x. int_div x z) a b
quotient_first z a b h x i = between_quotients z a x b h (inl (record { low = i.low; high = i.high }))

-- ---- between the ends of a range of divisors

-- a greater divisor has no greater quotient
falls : (n j k : ℕ) → 1 ≤ j → j ≤ k → n / k ≤ n / j
falls n j k some h =
    let more : n / k * j ≤ n / k * k = mul-le-mul_left (n / k) h in
    (le-div_iff_mul-le {k = j} {x = n / k} {y = n} some).1 (omega (arith, more, div-mul-le_self n k))

by_positive : (n : ℤ) (j k l : ℕ) → 1 ≤ j → j ≤ k → k ≤ l → IsBetween (int_div n (pos j)) (int_div n (pos k)) (int_div n (pos l))
by_positive (pos n) j k l some h p =
    let first : n / k ≤ n / j = falls n j k some h in
    let second : n / l ≤ n / k = falls n k l (omega arith) p in
    inr (record { low = omega (arith, ints, second); high = omega (arith, ints, first) })
by_positive (negsuc n) j k l some h p =
    let first : suc n / k ≤ suc n / j = falls (suc n) j k some h in
    let second : suc n / l ≤ suc n / k = falls (suc n) k l (omega arith) p in
    inl (record { low = omega (arith, ints, first); high = omega (arith, ints, second) })

above_zero : (n c y d : ℤ) → pos 1 ≤ℤ c → c ≤ℤ y → y ≤ℤ d → IsBetween (int_div n c) (int_div n y) (int_div n d)
above_zero n (pos c) (pos y) (pos d) some h p = by_positive n c y d (omega (arith, ints, some)) (omega (arith, ints, h)) (omega (arith, ints, p))
above_zero n (negsuc c) y d some h p = absurd some.le
above_zero n (pos c) (negsuc y) d some h p = absurd h.le
above_zero n (pos c) (pos y) (negsuc d) some h p = absurd p.le

below_zero : (n c y d : ℤ) → d ≤ℤ negsuc 0 → c ≤ℤ y → y ≤ℤ d → IsBetween (int_div n c) (int_div n y) (int_div n d)
below_zero n (negsuc c) (negsuc y) (negsuc d) some h p =
    rw (← (int_div-negsuc n c), ← (int_div-negsuc n y), ← (int_div-negsuc n d))
    (exchanged _ _ _ (by_positive (neg_ℤ n) (suc d) (suc y) (suc c) (omega arith) (omega (arith, ints, p)) (omega (arith, ints, h))))
below_zero n c y (pos d) some h p = absurd some.le
below_zero n c (pos y) (negsuc d) some h p = absurd p.le
below_zero n (pos c) (negsuc y) (negsuc d) some h p = absurd h.le

pub quotient_second : (n c d : ℤ) → IsOneSided c d → LiesBetween (int_div n) c d
quotient_second n c d (inl h) y i = above_zero n c y d h i.low i.high
quotient_second n c d (inr h) y i = below_zero n c y d h i.low i.high

-- no divisor of a one-sided range is 0
pub one_sided_divisor : (c d y : ℤ) → IsOneSided c d → IsInside c d y → 1 ≤ unsigned_abs y
one_sided_divisor c d y (inl h) i = let low = i.low in omega (arith, ints, h, low)
one_sided_divisor c d y (inr h) i = let high = i.high in omega (arith, ints, h, high)
