-- A saturated shift by more than 31 places is one by 31.
use Rattle.std.proofs.Common.{◌≡◌, ℕ, zero, suc, ◌*◌, ◌/◌, ◌<◌, ◌≤◌, ◌^◌, lit<, ℤ, pos, negsuc, ◌≤ℤ◌, ◌*ℤ◌, true, inl, inr, ◌⊎◌, sym, ap, ◌∙◌, arith}
use Rattle.std.proofs.lemmas.Bool.{cases_lt}
use Rattle.std.proofs.lemmas.Int.{ints}
use Rattle.std.proofs.Math.Nat.{div-eq_of_lt, mul-le-mul_right, pow-le-pow_right}
use borrow.Author.Differences.{at_most_in}
use Rattle.fx_core.specs.declared.quotient.Mode.TheVariants.{Floor}
use Rattle.fx_core.specs.declared.word_type.Ty.{Ty}
use Rattle.fx_core.specs.declared.word_type.Ty.TheVariants.{U8, S8, U16, S16, U32, S32}
use Rattle.fx_core.specs.Rounding.{power, rounded, shifted_rounded}
use Rattle.fx_core.specs.Types.{Holds, greatest_of, least_of, saturated, saturated_to}
use Rattle.fx_core.proofs.TypeLaws.{least-greatest, saturated_to-between}
use Rattle.fx_routines.specs.Variants.{is_signed}
use Rattle.fx_routines.specs.declared.bits.BitOp.TheVariants.{ShiftBitSat}
use Rattle.bfx_bits.specs.Routines.{bit_value, near_count}

-- the ends of a signed type
greatest-le : (t : Ty) → is_signed t ≡ true → greatest_of t ≤ℤ pos 2147483647
greatest-le S8 h = record { le = tt }
greatest-le S16 h = record { le = tt }
greatest-le S32 h = record { le = tt }
greatest-le U8 h = absurd (cc)
greatest-le U16 h = absurd (cc)
greatest-le U32 h = absurd (cc)

le-least : (t : Ty) → is_signed t ≡ true → negsuc 2147483647 ≤ℤ least_of t
le-least S8 h = record { le = tt }
le-least S16 h = record { le = tt }
le-least S32 h = record { le = tt }
le-least U8 h = absurd (cc)
le-least U16 h = absurd (cc)
le-least U32 h = absurd (cc)

-- past an end, a number is saturated to it
at_greatest : (low high v : ℤ) → low ≤ℤ high → high ≤ℤ v → saturated_to low high v ≡ high
at_greatest low high v p q = grind (arith, ints)

at_least : (low high v : ℤ) → low ≤ℤ high → v ≤ℤ low → saturated_to low high v ≡ low
at_least low high v p q = grind (arith, ints)

-- a power of two of at least 31 takes each number but 0 past the ends
greatest_past : (t : Ty) (m k : ℕ) → is_signed t ≡ true → 31 ≤ k → saturated t (pos (suc m) *ℤ power k) ≡ greatest_of t
greatest_past t m k s h =
    let p : 2 ^ 31 ≤ 2 ^ k = pow-le-pow_right (lit< tt) h in
    let q : 1 * 2 ^ k ≤ suc m * 2 ^ k = mul-le-mul_right (2 ^ k) (omega arith) in
    at_greatest (least_of t) (greatest_of t) (pos (suc m) *ℤ power k) (least-greatest t) (at_most_in _ _ (omega (arith, ints, p, q, greatest-le t s)))

least_past : (t : Ty) (m k : ℕ) → is_signed t ≡ true → 31 ≤ k → saturated t (negsuc m *ℤ power k) ≡ least_of t
least_past t m k s h =
    let p : 2 ^ 31 ≤ 2 ^ k = pow-le-pow_right (lit< tt) h in
    let q : 1 * 2 ^ k ≤ suc m * 2 ^ k = mul-le-mul_right (2 ^ k) (omega arith) in
    at_least (least_of t) (greatest_of t) (negsuc m *ℤ power k) (least-greatest t) (at_most_in _ _ (omega (arith, ints, p, q, le-least t s)))

far_left : (t : Ty) (v : ℤ) (k : ℕ) → is_signed t ≡ true → 31 ≤ k → saturated t (v *ℤ power 31) ≡ saturated t (v *ℤ power k)
far_left t (pos zero) k s h = let e : pos zero *ℤ power 31 ≡ pos zero *ℤ power k = omega (arith, ints) in ap (saturated t) e
far_left t (pos (suc m)) k s h = greatest_past t m 31 s (lit< tt) ∙ sym (greatest_past t m k s h)
far_left t (negsuc m) k s h = least_past t m 31 s (lit< tt) ∙ sym (least_past t m k s h)

-- a quotient by such a power is 0, or -1 for a number below 0
none_left : (m k : ℕ) → m < 2 ^ 31 → 30 ≤ k → m / 2 ^ suc k ≡ 0
none_left m k h l =
    let low : 31 ≤ suc k = omega (arith, l) in
    let p : 2 ^ 31 ≤ 2 ^ suc k = pow-le-pow_right (lit< tt) low in
    div-eq_of_lt (omega (arith, p, h))

far_right : (t : Ty) (v : ℤ) (k : ℕ) → is_signed t ≡ true → Holds t v → 30 ≤ k → rounded Floor v (power 31) ≡ rounded Floor v (power (suc k))
unfolding rounded
far_right t (pos m) k s h l =
    let small : m < 2 ^ 31 = omega (arith, ints, h.1, greatest-le t s) in
    ap pos (none_left m 30 small (lit< tt) ∙ sym (none_left m k small l))
far_right t (negsuc m) k s h l =
    let small : m < 2 ^ 31 = omega (arith, ints, h.0, le-least t s) in
    ap negsuc (none_left m 30 small (lit< tt) ∙ sym (none_left m k small l))

-- so the count may be held near
near_pos : (t : Ty) (v : ℤ) (k : ℕ) → is_signed t ≡ true → (k < 32) ⊎ (32 ≤ k) → saturated t (shifted_rounded Floor v (near_count (pos k))) ≡ saturated t (shifted_rounded Floor v (pos k))
unfolding shifted_rounded
near_pos t v k s (inl h) = ap (λ n. saturated t (shifted_rounded Floor v n)) (saturated_to-between (negsuc 30) (pos 31) (pos k) (at_most_in _ _ (omega (arith, ints))) (at_most_in _ _ (omega (arith, ints, h))))
near_pos t v k s (inr h) = ap (λ n. saturated t (shifted_rounded Floor v n)) (at_greatest (negsuc 30) (pos 31) (pos k) (record { le = tt }) (at_most_in _ _ (omega (arith, ints, h)))) ∙ far_left t v k s (omega (arith, h))

near_negsuc : (t : Ty) (v : ℤ) (k : ℕ) → is_signed t ≡ true → Holds t v → (k < 31) ⊎ (31 ≤ k) → saturated t (shifted_rounded Floor v (near_count (negsuc k))) ≡ saturated t (shifted_rounded Floor v (negsuc k))
unfolding shifted_rounded
near_negsuc t v k s w (inl h) = ap (λ n. saturated t (shifted_rounded Floor v n)) (saturated_to-between (negsuc 30) (pos 31) (negsuc k) (at_most_in _ _ (omega (arith, ints, h))) (at_most_in _ _ (omega (arith, ints))))
near_negsuc t v k s w (inr h) = ap (λ n. saturated t (shifted_rounded Floor v n)) (at_least (negsuc 30) (pos 31) (negsuc k) (record { le = tt }) (at_most_in _ _ (omega (arith, ints, h)))) ∙ ap (saturated t) (far_right t v k s w (omega (arith, h)))

pub near_is : (t : Ty) (v n : ℤ) → is_signed t ≡ true → Holds t v → saturated t (shifted_rounded Floor v (near_count n)) ≡ saturated t (shifted_rounded Floor v n)
near_is t v (pos k) s h = near_pos t v k s (cases_lt k 32)
near_is t v (negsuc k) s h = near_negsuc t v k s h (cases_lt k 31)

pub saturated_shift_is : (t : Ty) (x n c d w e r z : ℤ) → is_signed t ≡ true → Holds t x → w ≡ x → e ≡ near_count n → r ≡ shifted_rounded Floor w e → z ≡ saturated t r → z ≡ bit_value ShiftBitSat t x n c d
unfolding bit_value
saturated_shift_is t x n c d w e r z s h same count is value =
    value ∙ ap (saturated t) (is ∙ ap (λ v. shifted_rounded Floor v e) same ∙ ap (shifted_rounded Floor x) count) ∙ near_is t x n s h
