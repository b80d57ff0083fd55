-- The bits of native words, and the number with given bits.
use Rattle.std.proofs.Common.{◌≡◌, ℕ, zero, suc, ◌+◌, ◌-◌, ◌*◌, ◌/◌, ◌%◌, ◌<◌, ◌≤◌, ◌^◌, ◌==◌, lit<, ◌⊎◌, ℤ, pos, true, false, Bool, not, ◌&&◌, ◌||◌, inl, inr, refl, sym, ap, ap₂, ◌∙◌, arith, pow_pos}
use Rattle.std.specs.Prelude.{unsigned_abs, if◌then◌else◌, min, max, bit_and, bit_or, bit_xor, nat_lt}
use Rattle.std.specs.Int.{w32}
use Rattle.std.proofs.lemmas.Int.{ints}
use Rattle.std.proofs.lemmas.Bool.{cases_lt}
use Rattle.std.proofs.lemmas.Bool.Decides.{Decides-eqb, Decides-ltb}
use Rattle.std.proofs.lemmas.Nat.{and_mask, mod-pow-add, one_shl, shr-shr}
use Rattle.std.proofs.lemmas.Nat.Bits.{bit_at_and, bit_at_or, bit_at_xor, bit_at_not, bit_at-lt, bit_at_above, bit_at_cat_high, bit_at_cat_low, bit_at_ones, bit_at_ones_above, bit_at-pow_other, bit_at-pow_same, bit_at-zero}
use Rattle.std.proofs.Math.Nat.{div-eq_of_lt, mod-eq_of_lt, pow-le-pow_right}
use Rattle.fx_core.specs.declared.word_type.Ty.{Ty}
use Rattle.fx_core.specs.declared.word_type.Ty.TheVariants.{U8, S8, U16, S16, U32, S32}
use Rattle.fx_core.specs.Types.{Holds, width_of}
use Rattle.fx_routines.specs.Variants.{is_signed}
use Rattle.bfx_bits.specs.Bits.{HasBits, IsPattern, is_set, bit, bit_of, number_of, word_of}

-- a number of an unsigned type is not negative and below two to the power of the width
pub held_unsigned : (t : Ty) (v : ℤ) → not (is_signed t) ≡ true → Holds t v → IsPattern t v (unsigned_abs v)
held_unsigned U8 v u h = (omega (arith, ints, h.0), omega (arith, ints, h.0, h.1))
held_unsigned U16 v u h = (omega (arith, ints, h.0), omega (arith, ints, h.0, h.1))
held_unsigned U32 v u h = (omega (arith, ints, h.0), omega (arith, ints, h.0, h.1))
held_unsigned S8 v u h = absurd (cc)
held_unsigned S16 v u h = absurd (cc)
held_unsigned S32 v u h = absurd (cc)

-- no type has more than 32 bits
pub width-le : (t : Ty) → width_of t ≤ 32
width-le U8 = lit< tt
width-le S8 = lit< tt
width-le U16 = lit< tt
width-le S16 = lit< tt
width-le U32 = lit< tt
width-le S32 = lit< tt

-- a test of an order says which one it is
by_order : (j n : ℕ) → nat_lt j n ≡ false → (j < n) ⊎ (n ≤ j) → n ≤ j
by_order j n e (inl h) = absurd (cc (e, (Decides-ltb j n).1 h))
by_order j n e (inr h) = h

pub not_below : (j n : ℕ) → nat_lt j n ≡ false → n ≤ j
not_below j n e = by_order j n e (cases_lt j n)

pub below : (j n : ℕ) → nat_lt j n ≡ true → j < n
below j n e = (Decides-ltb j n).0 e

pub is_below : (j n : ℕ) → j < n → nat_lt j n ≡ true
is_below j n h = (Decides-ltb j n).1 h

from_order : (j n : ℕ) (b : Bool) → nat_lt j n ≡ b → n ≤ j → b ≡ false
from_order j n true e h = absurd (omega (arith, h, below j n e))
from_order j n false e h = refl

pub is_not_below : (j n : ℕ) → n ≤ j → nat_lt j n ≡ false
is_not_below j n h = from_order j n (nat_lt j n) refl h

-- ---- one bit of a native operation

both_bits : (x y : ℕ) → x < 2 → y < 2 → (min x y == 1) ≡ ((x == 1) && (y == 1))
both_bits zero zero h k = refl
both_bits zero (suc zero) h k = refl
both_bits (suc zero) zero h k = refl
both_bits (suc zero) (suc zero) h k = refl
both_bits (suc (suc x)) y h k = absurd (omega (arith, h))
both_bits x (suc (suc y)) h k = absurd (omega (arith, k))

either_bit : (x y : ℕ) → x < 2 → y < 2 → (max x y == 1) ≡ ((x == 1) || (y == 1))
either_bit zero zero h k = refl
either_bit zero (suc zero) h k = refl
either_bit (suc zero) zero h k = refl
either_bit (suc zero) (suc zero) h k = refl
either_bit (suc (suc x)) y h k = absurd (omega (arith, h))
either_bit x (suc (suc y)) h k = absurd (omega (arith, k))

one_bit : (x y : ℕ) → x < 2 → y < 2 → ((x + y) % 2 == 1) ≡ (if y == 1 then not (x == 1) else (x == 1))
one_bit zero zero h k = refl
one_bit zero (suc zero) h k = refl
one_bit (suc zero) zero h k = refl
one_bit (suc zero) (suc zero) h k = refl
one_bit (suc (suc x)) y h k = absurd (omega (arith, h))
one_bit x (suc (suc y)) h k = absurd (omega (arith, k))

other_bit : (x : ℕ) → x < 2 → (1 - x == 1) ≡ not (x == 1)
other_bit zero h = refl
other_bit (suc zero) h = refl
other_bit (suc (suc x)) h = absurd (omega (arith, h))

pub set_and : (a b j : ℕ) → is_set (bit_and a b) j ≡ (is_set a j && is_set b j)
set_and a b j = ap (λ x. x == 1) (bit_at_and a b j) ∙ both_bits _ _ (bit_at-lt a j) (bit_at-lt b j)

pub set_or : (a b j : ℕ) → is_set (bit_or a b) j ≡ (is_set a j || is_set b j)
set_or a b j = ap (λ x. x == 1) (bit_at_or a b j) ∙ either_bit _ _ (bit_at-lt a j) (bit_at-lt b j)

pub set_xor : (a b j : ℕ) → is_set (bit_xor a b) j ≡ (if is_set b j then not (is_set a j) else is_set a j)
set_xor a b j = ap (λ x. x == 1) (bit_at_xor a b j) ∙ one_bit _ _ (bit_at-lt a j) (bit_at-lt b j)

pub set_not : (a j : ℕ) → a < 2 ^ 32 → j < 32 → is_set (4294967295 - a) j ≡ not (is_set a j)
set_not a j h k = ap (λ x. x == 1) (bit_at_not w32 a j h k) ∙ other_bit _ (bit_at-lt a j)

pub set_above : (a n j : ℕ) → a < 2 ^ n → n ≤ j → is_set a j ≡ false
set_above a n j h k = ap (λ x. x == 1) (bit_at_above a n j h k)

-- ---- the number with given bits

number_same : (n : ℕ) (f g : ℕ → Bool) → ((j : ℕ) → j < n → f j ≡ g j) → number_of n f ≡ number_of n g
number_same zero f g h = refl
number_same (suc n) f g h = ap₂ (λ s (b : Bool). s + (if b then 2 ^ n else 0)) (number_same n f g (λ j k. h j (omega (arith, k)))) (h n (omega arith))

last_bit : (x p : ℕ) → x < 2 → x * p ≡ (if x == 1 then p else 0)
last_bit zero p h = omega arith
last_bit (suc zero) p h = omega arith
last_bit (suc (suc x)) p h = absurd (omega (arith, h))

number_is : (n r : ℕ) → number_of n (is_set r) ≡ r % 2 ^ n
number_is zero r = omega arith
number_is (suc n) r =
    let e : suc n ≡ 1 + n = omega arith in
    let split : r % 2 ^ (suc n) ≡ (r / 2 ^ n % 2) * 2 ^ n + r % 2 ^ n = ap (λ k. r % 2 ^ k) e ∙ mod-pow-add r 1 n in
    omega (arith, number_is n r, split, last_bit (r / 2 ^ n % 2) (2 ^ n) (bit_at-lt r n))

pub number_by_bits : (n r : ℕ) (f : ℕ → Bool) → r < 2 ^ n → ((j : ℕ) → j < n → is_set r j ≡ f j) → r ≡ number_of n f
number_by_bits n r f h same = sym (mod-eq_of_lt h) ∙ sym (number_is n r) ∙ number_same n (is_set r) f same

-- and words with the same bits are the same
pub word_same : (t : Ty) (f g : ℕ → Bool) → ((j : ℕ) → j < width_of t → f j ≡ g j) → word_of t f ≡ word_of t g
word_same t f g h = ap pos (number_same (width_of t) f g h)

-- so a word is known by its bits
pub word_by_bits : (t : Ty) (r : ℕ) (f : ℕ → Bool) → r < 2 ^ width_of t → ((j : ℕ) → j < width_of t → is_set r j ≡ f j) → pos r ≡ word_of t f
word_by_bits t r f h same = ap pos (number_by_bits (width_of t) r f h same)

-- the bits of a word are those of the native word that has them
bit_by_test : (n a j : ℕ) (b : Bool) → nat_lt j n ≡ b → a < 2 ^ n → (b && is_set a j) ≡ is_set a j
bit_by_test n a j true e h = refl
bit_by_test n a j false e h = sym (set_above a n j h (not_below j n e))

pub bit_is : (t : Ty) (v : ℤ) (a j : ℕ) → IsPattern t v a → bit_of t v j ≡ is_set a j
bit_is t v a j h = ap (λ x. nat_lt j (width_of t) && bit x j) (sym h.0) ∙ bit_by_test (width_of t) a j (nat_lt j (width_of t)) refl h.1

-- ---- runs of ones and shifts

ones_by_test : (k j : ℕ) (b : Bool) → nat_lt j k ≡ b → is_set (2 ^ k - 1) j ≡ b
ones_by_test k j true e = ap (λ x. x == 1) (bit_at_ones k j (below j k e))
ones_by_test k j false e = ap (λ x. x == 1) (bit_at_ones_above k j (not_below j k e))

pub set_ones : (k j : ℕ) → is_set (2 ^ k - 1) j ≡ nat_lt j k
set_ones k j = ones_by_test k j (nat_lt j k) refl

pub and_true : (x y : Bool) → y ≡ true → (x && y) ≡ x
and_true true true h = refl
and_true false true h = refl
and_true x false h = absurd (cc)

pub or_false : (x y : Bool) → y ≡ false → (x || y) ≡ x
or_false true false h = refl
or_false false false h = refl
or_false x true h = absurd (cc)

-- the lowest k bits
pub set_low : (x k j : ℕ) → j < k → is_set (bit_and x (2 ^ k - 1)) j ≡ is_set x j
set_low x k j h = set_and x (2 ^ k - 1) j ∙ and_true _ _ (set_ones k j ∙ is_below j k h)

pub set_mod : (x k j : ℕ) → j < k → is_set (x % 2 ^ k) j ≡ is_set x j
set_mod x k j h = ap (λ y. is_set y j) (sym (and_mask x k)) ∙ set_low x k j h

pub set_right : (x k j : ℕ) → is_set (x / 2 ^ k) j ≡ is_set x (k + j)
set_right x k j = ap (λ y. y % 2 == 1) (shr-shr x k j)

left_by_test : (x k j : ℕ) (b : Bool) → nat_lt j k ≡ b → is_set (x * 2 ^ k) j ≡ (if b then false else is_set x (j - k))
left_by_test x k j true e =
    let more : x * 2 ^ k ≡ x * 2 ^ k + 0 = omega arith in
    ap (λ y. is_set y j) more ∙ ap (λ y. y == 1) (bit_at_cat_low x k 0 j (below j k e) ∙ bit_at-zero j)
left_by_test x k j false e =
    let more : x * 2 ^ k ≡ x * 2 ^ k + 0 = omega arith in
    ap (λ y. is_set y j) more ∙ ap (λ y. y == 1) (bit_at_cat_high x k 0 j (pow_pos k) (not_below j k e))

pub set_left : (x k j : ℕ) → is_set (x * 2 ^ k) j ≡ (if nat_lt j k then false else is_set x (j - k))
set_left x k j = left_by_test x k j (nat_lt j k) refl

-- a shift past all bits leaves none
pub none_right : (x k : ℕ) → x < 2 ^ 32 → 32 ≤ k → 0 ≡ x / 2 ^ k
none_right x k h e =
    let p : 2 ^ 32 ≤ 2 ^ k = pow-le-pow_right (lit< tt) e in
    sym (div-eq_of_lt (omega (arith, p, h)))

pub bits_left : (x k : ℕ) → HasBits 32 (x * 2 ^ k % 4294967296) (λ j. if nat_lt j k then false else is_set x (j - k))
bits_left x k = λ j h. set_mod (x * 2 ^ k) 32 j h ∙ set_left x k j

-- the single bit
one_by_test : (p j : ℕ) (b : Bool) → (j == p) ≡ b → is_set (2 ^ p) j ≡ b
one_by_test p j true e = rw ((Decides-eqb j p).0 e) (ap (λ y. y == 1) (bit_at-pow_same p))
one_by_test p j false e = ap (λ y. y == 1) (bit_at-pow_other p j (λ h. absurd (cc (e, (Decides-eqb j p).1 h))))

pub set_one : (p j : ℕ) → p < 32 → is_set (1 * 2 ^ p % 4294967296) j ≡ (j == p)
set_one p j h = ap (λ y. is_set y j) (one_shl p 32 h) ∙ one_by_test p j (j == p) refl
