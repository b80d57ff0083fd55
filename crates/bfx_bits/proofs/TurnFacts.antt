-- What rotations and shifts give, on native words.
use Rattle.std.proofs.Common.{◌≡◌, add_comm, ℕ, ◌+◌, ◌-◌, ◌*◌, ◌/◌, ◌%◌, ◌<◌, ◌≤◌, ◌^◌, pow_pos, lit<, ℤ, pos, true, false, Bool, ◌||◌, refl, sym, ap, ap₂, ◌∙◌, arith}
use Rattle.std.specs.Prelude.{if◌then◌else◌, bit_and, bit_or, nat_lt}
use Rattle.std.proofs.lemmas.Nat.{and_le_r}
use Rattle.std.proofs.Math.Nat.{add-mod-mod, add-mul-mod_self_left, div-le_self, mod-eq_of_lt, mod-lt}
use Rattle.fx_core.specs.declared.word_type.Ty.{Ty}
use Rattle.fx_core.specs.declared.word_type.Ty.TheVariants.{U8, S8, U16, S16, U32, S32}
use Rattle.fx_core.specs.Types.{width_of}
use Rattle.fx_routines.specs.declared.bits.BitOp.TheVariants.{RotBitLt, RotBitRt, ShiftBitLt, ShiftBitRt}
use Rattle.bfx_bits.specs.Bits.{HasBits, IsPattern, is_set}
use Rattle.bfx_bits.specs.Routines.{bit_value}
use Rattle.bfx_bits.proofs.BitFacts.{and_true, below, bit_is, is_below, not_below, or_false, set_above, set_and, set_ones, set_or, set_right, width-le, word_by_bits}

-- a place that went past the width comes in again below
turned : (n j k : ℕ) → j < n → k ≤ j → (j + (n - k)) % n ≡ j - k
turned n j k h l =
    let e : j + (n - k) ≡ (j - k) + n * 1 = omega (arith, h, l) in
    ap (λ x. x % n) e ∙ add-mul-mod_self_left (j - k) n 1 ∙ mod-eq_of_lt (omega (arith, h))

rotated_by_test : (w n k j : ℕ) (b : Bool) → nat_lt j k ≡ b → w < 2 ^ n → k ≤ n → j < n → ((if b then false else is_set w (j - k)) || is_set w ((n - k) + j)) ≡ is_set w ((j + (n - k)) % n)
rotated_by_test w n k j true e h l m =
    let same : (n - k) + j ≡ (j + (n - k)) % n = omega (arith, add_comm (n - k) j) ∙ sym (mod-eq_of_lt (omega (arith, l, below j k e))) in
    ap (λ i. is_set w i) same
rotated_by_test w n k j false e h l m =
    or_false _ _ (set_above w n ((n - k) + j) h (omega (arith, not_below j k e, l))) ∙ ap (λ i. is_set w i) (sym (turned n j k m (not_below j k e)))

pub rotated_bits : (w n k l r m : ℕ) → w < 2 ^ n → k ≤ n → n ≤ 32 → HasBits 32 l (λ j. if nat_lt j k then false else is_set w (j - k)) → r ≡ w / 2 ^ (n - k) → m ≡ 2 ^ n - 1 → HasBits n (bit_and (bit_or l r) m) (λ j. is_set w ((j + (n - k)) % n))
rotated_bits w n k l r m h few small left right ones = λ j below_n.
    set_and (bit_or l r) m j
    ∙ and_true _ _ (ap (λ x. is_set x j) ones ∙ set_ones n j ∙ is_below j n below_n)
    ∙ set_or l r j
    ∙ ap₂ (λ p q. p || q) (left j (omega (arith, below_n, small))) (ap (λ x. is_set x j) right ∙ set_right w (n - k) j)
    ∙ rotated_by_test w n k j (nat_lt j k) refl h few below_n

-- a rotation to the left
pub left_turn_is : (t : Ty) (x c d : ℤ) (p n k a r : ℕ) → IsPattern t x a → n ≡ width_of t → k ≡ p % n → HasBits n r (λ j. is_set a ((j + (n - k)) % n)) → r < 2 ^ n → pos r ≡ bit_value RotBitLt t x (pos p) c d
unfolding bit_value
left_turn_is t x c d p n k a r h e f bits width =
    word_by_bits t r _ (rw (sym e) width) (λ j l.
    bits j (rw e l)
    ∙ ap (λ i. is_set a ((j + (n - i)) % n)) f
    ∙ ap (λ i. is_set a ((j + (i - p % i)) % i)) e
    ∙ sym (bit_is t x a ((j + (width_of t - p % width_of t)) % width_of t) h))

-- and to the right
right_turn : (j p n : ℕ) → 0 < n → (j + (n - (n - p % n))) % n ≡ (j + p) % n
right_turn j p n h =
    let e : n - (n - p % n) ≡ p % n = omega (arith, mod-lt p h) in
    ap (λ i. (j + i) % n) e ∙ add-mod-mod j p n

wide : (t : Ty) → 0 < width_of t
wide U8 = lit< tt
wide S8 = lit< tt
wide U16 = lit< tt
wide S16 = lit< tt
wide U32 = lit< tt
wide S32 = lit< tt

pub right_turn_is : (t : Ty) (x c d : ℤ) (p n k a r : ℕ) → IsPattern t x a → n ≡ width_of t → k ≡ n - p % n → HasBits n r (λ j. is_set a ((j + (n - k)) % n)) → r < 2 ^ n → pos r ≡ bit_value RotBitRt t x (pos p) c d
unfolding bit_value
right_turn_is t x c d p n k a r h e f bits width =
    word_by_bits t r _ (rw (sym e) width) (λ j l.
    bits j (rw e l)
    ∙ ap (λ i. is_set a ((j + (n - i)) % n)) f
    ∙ ap (λ i. is_set a ((j + (i - (i - p % i))) % i)) e
    ∙ ap (is_set a) (right_turn j p (width_of t) (wide t))
    ∙ sym (bit_is t x a ((j + p) % width_of t) h))

-- shifts
pub shift_left_is : (t : Ty) (x c d : ℤ) (p n k a l m : ℕ) → IsPattern t x a → n ≡ p → HasBits 32 l (λ j. if nat_lt j n then false else is_set a (j - n)) → k ≡ width_of t → m ≡ 2 ^ k - 1 → pos (bit_and l m) ≡ bit_value ShiftBitLt t x (pos p) c d
unfolding bit_value
shift_left_is t x c d p n k a l m h e left f ones =
    let p_m : m ≡ 2 ^ width_of t - 1 = ones ∙ ap (λ i. 2 ^ i - 1) f in
    word_by_bits t (bit_and l m) _ (omega (arith, and_le_r l m, p_m, pow_pos (width_of t))) (λ j below_width.
    set_and l m j
    ∙ and_true _ _ (ap (λ y. is_set y j) p_m ∙ set_ones (width_of t) j ∙ is_below j (width_of t) below_width)
    ∙ left j (omega (arith, below_width, width-le t))
    ∙ ap (λ i. if nat_lt j i then false else is_set a (j - i)) e
    ∙ ap (λ (b : Bool). if nat_lt j p then false else b) (sym (bit_is t x a (j - p) h)))

pub shift_right_is : (t : Ty) (x c d : ℤ) (p n a r : ℕ) → IsPattern t x a → n ≡ p → r ≡ a / 2 ^ n → pos r ≡ bit_value ShiftBitRt t x (pos p) c d
unfolding bit_value
shift_right_is t x c d p n a r h e right =
    word_by_bits t r _ (omega (arith, right, div-le_self a (2 ^ n), h.1)) (λ j l.
    ap (λ y. is_set y j) (right ∙ ap (λ i. a / 2 ^ i) e) ∙ set_right a p j ∙ ap (is_set a) (add_comm p j) ∙ sym (bit_is t x a (j + p) h))
