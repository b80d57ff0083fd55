-- What the routines by a mask give, on native words.
use Rattle.std.proofs.Common.{◌≡◌, ℕ, zero, suc, ◌+◌, ◌-◌, ◌*◌, ◌/◌, ◌%◌, ◌<◌, ◌≤◌, ◌^◌, ◌==◌, ◌⊎◌, inl, inr, pow_pos, lit<, ℤ, pos, true, false, Bool, not, ◌&&◌, ◌||◌, refl, sym, ap, ap₂, ◌∙◌, arith}
use Rattle.std.specs.Prelude.{if◌then◌else◌, bit_and, bit_or, bit_xor}
use Rattle.std.specs.Int.RustNames.{count_ones}
use Rattle.std.proofs.lemmas.Nat.{and_le_l, and_le_r, mod-pow-add, ones_cat, or_lt, xor_lt}
use Rattle.std.proofs.lemmas.Nat.Bits.{bit_at-lt, bit_at-zero}
use Rattle.std.proofs.lemmas.Bool.{and_from, and_parts, cases_eq}
use Rattle.std.proofs.lemmas.Bool.Decides.{Decides-eqb}
use Rattle.std.proofs.Math.Nat.{mod-eq_of_lt, mod-lt, pow-le-pow_right}
use Rattle.fx_core.specs.declared.word_type.Ty.{Ty}
use Rattle.fx_core.specs.Types.{width_of}
use Rattle.fx_routines.specs.declared.bits.BitOp.TheVariants.{SetBitMask, ClrBitMask, ToggleBitMask, PutBitsMask, TstBitMask, TstBitLnMask, TstParityEven, ToggleBits}
use Rattle.bfx_bits.specs.Bits.{HasBits, IsPattern, is_set, bit_of, word_of, count_below, each_below, some_below}
use Rattle.bfx_bits.specs.Routines.{bit_value, truth}
use Rattle.bfx_bits.proofs.BitFacts.{and_true, bit_is, is_below, number_by_bits, or_false, set_ones, set_and, set_not, set_or, set_xor, width-le, word_by_bits, word_same}

-- a native word of a type's bits has at most 32
pub pattern_below : (t : Ty) (v : ℤ) (a : ℕ) → IsPattern t v a → a < 2 ^ 32
pattern_below t v a h = let p : 2 ^ width_of t ≤ 2 ^ 32 = pow-le-pow_right (lit< tt) (width-le t) in omega (arith, p, h.1)

pub set_mask_is : (t : Ty) (x y c d : ℤ) (a b : ℕ) → IsPattern t x a → IsPattern t y b → pos (bit_or a b) ≡ bit_value SetBitMask t x y c d
unfolding bit_value
set_mask_is t x y c d a b h k =
    word_by_bits t (bit_or a b) _ (or_lt (width_of t) a b h.1 k.1) (λ j l. set_or a b j ∙ ap₂ (λ p q. p || q) (sym (bit_is t x a j h)) (sym (bit_is t y b j k)))

pub clear_mask_is : (t : Ty) (x y c d : ℤ) (a b : ℕ) → IsPattern t x a → IsPattern t y b → pos (bit_and a (4294967295 - b)) ≡ bit_value ClrBitMask t x y c d
unfolding bit_value
clear_mask_is t x y c d a b h k =
    word_by_bits t (bit_and a (4294967295 - b)) _ (omega (arith, and_le_l a (4294967295 - b), h.1)) (λ j l.
    set_and a (4294967295 - b) j ∙ ap₂ (λ p q. p && q) (sym (bit_is t x a j h)) (set_not b j (pattern_below t y b k) (omega (arith, l, width-le t)) ∙ ap not (sym (bit_is t y b j k))))

pub toggle_mask_is : (t : Ty) (x y c d : ℤ) (a b : ℕ) → IsPattern t x a → IsPattern t y b → pos (bit_xor a b) ≡ bit_value ToggleBitMask t x y c d
unfolding bit_value
toggle_mask_is t x y c d a b h k =
    word_by_bits t (bit_xor a b) _ (xor_lt (width_of t) a b h.1 k.1) (λ j l. set_xor a b j ∙ ap₂ (λ (p q : Bool). if q then not p else p) (sym (bit_is t x a j h)) (sym (bit_is t y b j k)))

pub toggle_all_is : (t : Ty) (x b c d : ℤ) (a n m : ℕ) → IsPattern t x a → m ≡ 2 ^ n - 1 → n ≡ width_of t → pos (bit_xor a m) ≡ bit_value ToggleBits t x b c d
unfolding bit_value
toggle_all_is t x b c d a n m h e f =
    word_by_bits t (bit_xor a m) _ (xor_lt (width_of t) a m h.1 (rw (e, f) (omega (arith, pow_pos (width_of t))))) (λ j l.
    set_xor a m j
    ∙ ap (λ (q : Bool). if q then not (is_set a j) else is_set a j) (rw (e, f) (set_ones (width_of t) j) ∙ is_below j (width_of t) l)
    ∙ ap not (sym (bit_is t x a j h)))

-- what `put` gives
chosen_bit : (a p m : Bool) → ((a && not m) || (p && m)) ≡ (if m then p else a)
chosen_bit true true true = refl
chosen_bit true true false = refl
chosen_bit true false true = refl
chosen_bit true false false = refl
chosen_bit false true true = refl
chosen_bit false true false = refl
chosen_bit false false true = refl
chosen_bit false false false = refl

pub put_below : (t : Ty) (x : ℤ) (a p m : ℕ) → IsPattern t x a → m < 2 ^ width_of t → bit_or (bit_and a (4294967295 - m)) (bit_and p m) < 2 ^ width_of t
put_below t x a p m h k = or_lt (width_of t) (bit_and a (4294967295 - m)) (bit_and p m) (omega (arith, and_le_l a (4294967295 - m), h.1)) (omega (arith, and_le_r p m, k))

pub put_is : (t : Ty) (x : ℤ) (a p m : ℕ) → IsPattern t x a → m < 2 ^ width_of t → pos (bit_or (bit_and a (4294967295 - m)) (bit_and p m)) ≡ word_of t (λ j. if is_set m j then is_set p j else bit_of t x j)
put_is t x a p m h k =
    word_by_bits t (bit_or (bit_and a (4294967295 - m)) (bit_and p m)) _ (put_below t x a p m h k) (λ j l.
    set_or (bit_and a (4294967295 - m)) (bit_and p m) j
    ∙ ap₂ (λ p q. p || q) (set_and a (4294967295 - m) j ∙ ap (λ q. is_set a j && q) (set_not m j (pattern_below t (pos m) m (refl, k)) (omega (arith, l, width-le t)))) (set_and p m j)
    ∙ chosen_bit (is_set a j) (is_set p j) (is_set m j)
    ∙ ap (λ (q : Bool). if is_set m j then is_set p j else q) (sym (bit_is t x a j h)))

-- bits that are put where a mask says
put_bit_same : (b : Bool) (p w o : Bool) → (b ≡ true → p ≡ w) → (if b then p else o) ≡ (if b then w else o)
put_bit_same true p w o h = h refl
put_bit_same false p w o h = refl

pub put_same : (t : Ty) (x : ℤ) (m p : ℕ) (places bits : ℕ → Bool) → HasBits (width_of t) m places → ((j : ℕ) → j < width_of t → places j ≡ true → is_set p j ≡ bits j) → word_of t (λ j. if is_set m j then is_set p j else bit_of t x j) ≡ word_of t (λ j. if places j then bits j else bit_of t x j)
put_same t x m p places bits h k =
    word_same t _ _ (λ j l. ap (λ (q : Bool). if q then is_set p j else bit_of t x j) (h j l) ∙ put_bit_same (places j) (is_set p j) (bits j) (bit_of t x j) (k j l))

pub put_mask_is : (t : Ty) (x y z d : ℤ) (p m : ℕ) → IsPattern t y p → IsPattern t z m → word_of t (λ j. if is_set m j then is_set p j else bit_of t x j) ≡ bit_value PutBitsMask t x y z d
unfolding bit_value
put_mask_is t x y z d p m h k = put_same t x m p (bit_of t z) (bit_of t y) (λ j l. sym (bit_is t z m j k)) (λ j l e. sym (bit_is t y p j h))

-- ---- tests

each_true : (n : ℕ) (f : ℕ → Bool) → ((j : ℕ) → j < n → f j ≡ true) → each_below n f ≡ true
each_true zero f h = refl
each_true (suc n) f h = and_from _ _ (each_true n f (λ j l. h j (omega (arith, l)))) (h n (omega arith))

last_or_below : (n j : ℕ) (f : ℕ → Bool) (b : Bool) → j < suc n → (j < n → f j ≡ b) → f n ≡ b → (j ≡ n) ⊎ (j ≡ n → ⊥) → f j ≡ b
last_or_below n j f b l h k (inl e) = ap f e ∙ k
last_or_below n j f b l h k (inr e) = h (omega (arith, l, e))

each_at : (n : ℕ) (f : ℕ → Bool) → each_below n f ≡ true → (j : ℕ) → j < n → f j ≡ true
each_at zero f h j l = absurd (omega (arith, l))
each_at (suc n) f h j l = let p = and_parts _ _ h in last_or_below n j f true l (λ k. each_at n f p.0 j k) p.1 (cases_eq j n)

pub some_false : (n : ℕ) (f : ℕ → Bool) → ((j : ℕ) → j < n → f j ≡ false) → some_below n f ≡ false
some_false zero f h = refl
some_false (suc n) f h = or_false _ _ (h n (omega arith)) ∙ some_false n f (λ j l. h j (omega (arith, l)))

neither : (x y : Bool) → (x || y) ≡ false → (x ≡ false) × (y ≡ false)
neither false y h = (refl, h)
neither true y h = absurd (cc)

none_at : (n : ℕ) (f : ℕ → Bool) → some_below n f ≡ false → (j : ℕ) → j < n → f j ≡ false
none_at zero f h j l = absurd (omega (arith, l))
none_at (suc n) f h j l = let p = neither _ _ h in last_or_below n j f false l (λ k. none_at n f p.0 j k) p.1 (cases_eq j n)

and_swap : (x y : Bool) → (x && y) ≡ (y && x)
and_swap true true = refl
and_swap true false = refl
and_swap false true = refl
and_swap false false = refl

-- all of the mask's bits are set where the mask keeps itself
both_of : (x y : Bool) → (x && y) ≡ y → (if y then x else true) ≡ true
both_of x true h = sym (and_true x true refl) ∙ h
both_of x false h = refl

keeps : (x y : Bool) → (if y then x else true) ≡ true → (x && y) ≡ y
keeps x true h = and_true x true refl ∙ h
keeps true false h = refl
keeps false false h = refl

all_by_test : (n a b : ℕ) (test all : Bool) → (bit_and a b == b) ≡ test → each_below n (λ j. if is_set b j then is_set a j else true) ≡ all → a < 2 ^ n → b < 2 ^ n → test ≡ all
all_by_test n a b true all e f h k =
    sym (each_true n _ (λ j l. both_of (is_set a j) (is_set b j) (sym (set_and a b j) ∙ ap (λ x. is_set x j) ((Decides-eqb _ _).0 e)))) ∙ f
all_by_test n a b false false e f h k = refl
all_by_test n a b false true e f h k =
    let same : bit_and a b ≡ b = number_by_bits n (bit_and a b) (is_set b) (omega (arith, and_le_r a b, k)) (λ j l. set_and a b j ∙ keeps (is_set a j) (is_set b j) (each_at n _ f j l)) ∙ sym (number_by_bits n b (is_set b) k (λ j l. refl)) in
    absurd (cc (e, (Decides-eqb _ _).1 same))

each_same : (n : ℕ) (f g : ℕ → Bool) → ((j : ℕ) → f j ≡ g j) → each_below n f ≡ each_below n g
each_same zero f g h = refl
each_same (suc n) f g h = ap₂ (λ p q. p && q) (each_same n f g h) (h n)

pub all_set_is : (t : Ty) (x y c d : ℤ) (a b : ℕ) → IsPattern t x a → IsPattern t y b → truth (bit_and a b == b) ≡ bit_value TstBitMask t x y c d
unfolding bit_value
all_set_is t x y c d a b h k =
    ap truth (all_by_test (width_of t) a b _ _ refl refl h.1 k.1
    ∙ each_same (width_of t) _ _ (λ j. ap₂ (λ (p q : Bool). if q then p else true) (sym (bit_is t x a j h)) (sym (bit_is t y b j k))))

some_by_test : (n a b : ℕ) (zero_test some : Bool) → (bit_and a b == 0) ≡ zero_test → some_below n (λ j. is_set b j && is_set a j) ≡ some → b < 2 ^ n → not zero_test ≡ some
some_by_test n a b true some e f k =
    sym (some_false n _ (λ j l. and_swap (is_set b j) (is_set a j) ∙ sym (set_and a b j) ∙ ap (λ x. is_set x j) ((Decides-eqb _ _).0 e) ∙ ap (λ y. y == 1) (bit_at-zero j))) ∙ f
some_by_test n a b false true e f k = refl
some_by_test n a b false false e f k =
    let none : bit_and a b ≡ 0 = number_by_bits n (bit_and a b) (is_set 0) (omega (arith, and_le_r a b, k)) (λ j l. set_and a b j ∙ and_swap (is_set a j) (is_set b j) ∙ none_at n _ f j l ∙ sym (ap (λ y. y == 1) (bit_at-zero j))) ∙ sym (number_by_bits n 0 (is_set 0) (pow_pos n) (λ j l. refl)) in
    absurd (cc (e, (Decides-eqb _ _).1 none))

some_same : (n : ℕ) (f g : ℕ → Bool) → ((j : ℕ) → f j ≡ g j) → some_below n f ≡ some_below n g
some_same zero f g h = refl
some_same (suc n) f g h = ap₂ (λ p q. p || q) (some_same n f g h) (h n)

pub some_set_is : (t : Ty) (x y c d : ℤ) (a b : ℕ) → IsPattern t x a → IsPattern t y b → truth (not (bit_and a b == 0)) ≡ bit_value TstBitLnMask t x y c d
unfolding bit_value
some_set_is t x y c d a b h k =
    ap truth (some_by_test (width_of t) a b _ _ refl refl k.1
    ∙ some_same (width_of t) _ _ (λ j. ap₂ (λ p q. p && q) (sym (bit_is t y b j k)) (sym (bit_is t x a j h))))

-- ---- parity

none_counted : count_ones 0 ≡ 0
unfolding count_ones
none_counted = refl

last_count : (x : ℕ) → x < 2 → count_ones x ≡ (if x == 1 then 1 else 0)
unfolding count_ones
last_count zero h = refl
last_count (suc zero) h = refl
last_count (suc (suc x)) h = absurd (omega (arith, h))

pub count_is : (n r : ℕ) → count_below n (is_set r) ≡ count_ones (r % 2 ^ n)
count_is zero r = sym none_counted ∙ ap count_ones (omega arith)
count_is (suc n) r =
    let e : suc n ≡ 1 + n = omega arith in
    let split : r % 2 ^ (suc n) ≡ (r / 2 ^ n % 2) * 2 ^ n + r % 2 ^ n = ap (λ k. r % 2 ^ k) e ∙ mod-pow-add r 1 n in
    let counts : count_ones (r % 2 ^ (suc n)) ≡ count_ones (r / 2 ^ n % 2) + count_ones (r % 2 ^ n) = ap count_ones split ∙ ones_cat n (r / 2 ^ n % 2) (r % 2 ^ n) (mod-lt r (pow_pos n)) in
    omega (arith, count_is n r, counts, last_count (r / 2 ^ n % 2) (bit_at-lt r n))

count_same : (n : ℕ) (f g : ℕ → Bool) → ((j : ℕ) → f j ≡ g j) → count_below n f ≡ count_below n g
count_same zero f g h = refl
count_same (suc n) f g h = ap₂ (λ s (b : Bool). s + (if b then 1 else 0)) (count_same n f g h) (h n)

pub parity_is : (t : Ty) (x b c d : ℤ) (a : ℕ) → IsPattern t x a → truth (count_ones a % 2 == 0) ≡ bit_value TstParityEven t x b c d
unfolding bit_value
parity_is t x b c d a h =
    ap (λ n. truth (n % 2 == 0)) (ap count_ones (sym (mod-eq_of_lt h.1)) ∙ sym (count_is (width_of t) a) ∙ count_same (width_of t) _ _ (λ j. sym (bit_is t x a j h)))
