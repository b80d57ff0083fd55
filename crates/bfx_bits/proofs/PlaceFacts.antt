-- What the routines on single bits and on ranges give, on native words.
use Rattle.std.proofs.Common.{◌≡◌, ℕ, ◌+◌, ◌-◌, ◌*◌, ◌/◌, ◌%◌, ◌<◌, ◌≤◌, ◌^◌, ◌==◌, pow_pos, lit<, ℤ, pos, true, false, Bool, not, ◌&&◌, refl, sym, ap, ap₂, ◌∙◌, arith}
use Rattle.std.specs.Prelude.{if◌then◌else◌, bit_and, min, nat_lt, unsigned_abs}
use Rattle.std.proofs.lemmas.Bool.{and_parts}
use Rattle.std.proofs.lemmas.Nat.{and_le_l, and_le_r}
use Rattle.std.proofs.lemmas.Nat.Bits.{shr_and_one}
use Rattle.std.proofs.Math.Nat.{pow-le-pow_right}
use Rattle.fx_core.specs.declared.word_type.Ty.{Ty}
use Rattle.fx_core.specs.Types.{width_of}
use Rattle.fx_routines.specs.declared.bits.BitOp.TheVariants.{SetBit, ClrBit, GetBit, PutBit, SetBits, GetBits, PutBits, CopyBit}
use Rattle.bfx_bits.specs.Bits.{HasBits, IsPattern, is_set, bit_of, word_of}
use Rattle.bfx_bits.specs.Routines.{bit_value, is_within, status, truth}
use Rattle.bfx_bits.proofs.BitFacts.{below, bit_is, is_below, is_not_below, not_below, set_and, set_not, set_one, set_ones, set_right, width-le, word_by_bits}
use Rattle.bfx_bits.proofs.MaskFacts.{put_same}

-- ---- tests of orders

where_set : (x b : Bool) → (x && b) ≡ (if b then x else false)
where_set true true = refl
where_set true false = refl
where_set false true = refl
where_set false false = refl

-- ---- masks

pub place_bits : (t : Ty) (p a n : ℕ) → a ≡ p → n ≡ width_of t → a < n → HasBits (width_of t) (1 * 2 ^ p % 4294967296) (λ j. j == p)
place_bits t p a n e f h = λ j l. set_one p j (omega (arith, e, f, h, width-le t))

lower_by_test : (c n j : ℕ) (b : Bool) → nat_lt j c ≡ b → j < n → nat_lt j (min c n) ≡ b
lower_by_test c n j true e l = is_below j (min c n) (omega (arith, below j c e, l))
lower_by_test c n j false e l = is_not_below j (min c n) (omega (arith, not_below j c e))

pub lowest_bits : (n c m r : ℕ) → m ≡ min c n → r ≡ 2 ^ m - 1 → HasBits n r (λ j. nat_lt j c)
lowest_bits n c m r e f = λ j l. ap (λ x. is_set x j) f ∙ set_ones m j ∙ ap (λ x. nat_lt j x) e ∙ lower_by_test c n j (nat_lt j c) refl l

pub lowest_width : (n c m r : ℕ) → m ≡ min c n → r ≡ 2 ^ m - 1 → r < 2 ^ n
lowest_width n c m r e f =
    let below : m ≤ n = omega (arith, e) in
    let p : 2 ^ m ≤ 2 ^ n = pow-le-pow_right (lit< tt) below in
    omega (arith, p, f, pow_pos m)

both_swap : (x y : Bool) → (x && y) ≡ (y && x)
both_swap true true = refl
both_swap true false = refl
both_swap false true = refl
both_swap false false = refl

pub range_bits : (t : Ty) (s len a b x y : ℕ) → x ≡ s + len → y ≡ s → HasBits (width_of t) a (λ j. nat_lt j x) → HasBits (width_of t) b (λ j. nat_lt j y) → b < 2 ^ width_of t → HasBits (width_of t) (bit_and a (4294967295 - b)) (is_within s len)
range_bits t s len a b x y e f h k w = λ j l.
    let p : 2 ^ width_of t ≤ 2 ^ 32 = pow-le-pow_right (lit< tt) (width-le t) in
    set_and a (4294967295 - b) j
    ∙ ap₂ (λ p q. p && q) (h j l ∙ ap (λ x. nat_lt j x) e) (set_not b j (omega (arith, p, w)) (omega (arith, l, width-le t)) ∙ ap not (k j l ∙ ap (λ x. nat_lt j x) f))
    ∙ both_swap (nat_lt j (s + len)) (not (nat_lt j s))

pub range_width : (t : Ty) (a b : ℕ) → a < 2 ^ width_of t → bit_and a (4294967295 - b) < 2 ^ width_of t
range_width t a b h = omega (arith, and_le_l a (4294967295 - b), h)

-- ---- single bits

status-truth : (s : Bool) → status (truth s) ≡ s
status-truth true = refl
status-truth false = refl

truth_same : (s u : Bool) → truth s ≡ truth u → s ≡ u
truth_same s u h = sym (status-truth s) ∙ ap status h ∙ status-truth u

pub get_is : (t : Ty) (x c d : ℤ) (p n a r : ℕ) → IsPattern t x a → n ≡ p → r ≡ a / 2 ^ n → truth (bit_and r 1 == 1) ≡ bit_value GetBit t x (pos p) c d
unfolding bit_value
get_is t x c d p n a r h e f =
    ap (λ y. truth (bit_and y 1 == 1)) (f ∙ ap (λ k. a / 2 ^ k) e) ∙ ap (λ y. truth (y == 1)) (shr_and_one a p) ∙ ap truth (sym (bit_is t x a p h))

pub put_bit_is : (t : Ty) (x d : ℤ) (p : ℕ) (s : Bool) (f m : ℕ) → HasBits 32 f (λ j. s) → HasBits (width_of t) m (λ j. j == p) → word_of t (λ j. if is_set m j then is_set f j else bit_of t x j) ≡ bit_value PutBit t x (pos p) (truth s) d
unfolding bit_value
put_bit_is t x d p s f m h k = put_same t x m f (λ j. j == p) (λ j. status (truth s)) k (λ j l e. h j (omega (arith, l, width-le t)) ∙ sym (status-truth s))

pub put_true : (t : Ty) (x p c d e : ℤ) → bit_value PutBit t x p (truth true) e ≡ bit_value SetBit t x p c d
unfolding bit_value
put_true t x p c d e = refl

pub put_false : (t : Ty) (x p c d e : ℤ) → bit_value PutBit t x p (truth false) e ≡ bit_value ClrBit t x p c d
unfolding bit_value
put_false t x p c d e = refl

pub copy_is : (t : Ty) (x p y q c d e : ℤ) (s : Bool) → truth s ≡ bit_value GetBit t y q c d → bit_value PutBit t x p (truth s) e ≡ bit_value CopyBit t x p y q
unfolding bit_value
copy_is t x p y q c d e s h = ap (λ (z : Bool). word_of t (λ j. if j == unsigned_abs p then z else bit_of t x j)) (status-truth s ∙ truth_same s _ h)

-- ---- ranges

pub set_bits_is : (t : Ty) (x : ℤ) (start len : ℕ) (s : Bool) (f m : ℕ) → HasBits 32 f (λ j. s) → HasBits (width_of t) m (is_within start len) → word_of t (λ j. if is_set m j then is_set f j else bit_of t x j) ≡ bit_value SetBits t x (pos start) (pos len) (truth s)
unfolding bit_value
set_bits_is t x start len s f m h k = put_same t x m f (is_within start len) (λ j. status (truth s)) k (λ j l e. h j (omega (arith, l, width-le t)) ∙ sym (status-truth s))

-- from the start on, the pattern's bits stand where they are to be
from_start : (b : Bool) → not b ≡ true → b ≡ false
from_start false h = refl
from_start true h = absurd (cc)

pub put_bits_is : (t : Ty) (x y : ℤ) (start len n a r m : ℕ) → IsPattern t y a → n ≡ start → HasBits 32 r (λ j. if nat_lt j n then false else is_set a (j - n)) → HasBits (width_of t) m (is_within start len) → word_of t (λ j. if is_set m j then is_set r j else bit_of t x j) ≡ bit_value PutBits t x (pos start) (pos len) y
unfolding bit_value
put_bits_is t x y start len n a r m h e f k =
    put_same t x m r (is_within start len) (λ j. bit_of t y (j - start)) k (λ j l w.
    f j (omega (arith, l, width-le t))
    ∙ ap (λ i. if nat_lt j i then false else is_set a (j - i)) e
    ∙ ap (λ (b : Bool). if b then false else is_set a (j - start)) (from_start (nat_lt j start) (and_parts _ _ w).0)
    ∙ sym (bit_is t y a (j - start) h))

pub get_bits_is : (t : Ty) (x d : ℤ) (start len n k a r m : ℕ) → IsPattern t x a → n ≡ start → k ≡ len → r ≡ a / 2 ^ n → HasBits (width_of t) m (λ j. nat_lt j k) → m < 2 ^ width_of t → pos (bit_and r m) ≡ bit_value GetBits t x (pos start) (pos len) d
unfolding bit_value
get_bits_is t x d start len n k a r m h e f is bits width =
    word_by_bits t (bit_and r m) _ (omega (arith, and_le_r r m, width)) (λ j l.
    set_and r m j
    ∙ ap₂ (λ p q. p && q) (ap (λ y. is_set y j) (is ∙ ap (λ i. a / 2 ^ i) e) ∙ set_right a start j ∙ sym (bit_is t x a (start + j) h)) (bits j l ∙ ap (λ i. nat_lt j i) f)
    ∙ where_set (bit_of t x (start + j)) (nat_lt j len))
