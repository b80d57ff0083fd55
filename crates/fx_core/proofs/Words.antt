-- What the functions on 128-bit words compute, over plain variables.
use Rattle.std.proofs.Common.{◌≡◌, ℕ, zero, ◌*◌, ◌<◌, ◌≤◌, ◌^◌, lit<, ℤ, pos, negsuc, ◌+ℤ◌, ◌-ℤ◌, ◌*ℤ◌, ◌≤ℤ◌, ◌<ℤ◌, true, false, refl, sym, ◌∙◌, ap, subst, arith, div-add-mod', mod-lt, mul-le-mul_left, FitsSigned, to_z, of_z}
use Rattle.std.proofs.Math.Nat.{pow-le-pow_right}
use Rattle.std.specs.Int.{IsNonNegative, int_div_euclid, int_rem_euclid, w32, w128}
use Rattle.std.specs.Prelude.{unsigned_abs, int_div, int_le, int_lt}
use Rattle.std.proofs.lemmas.Int.{ints, to_z-of_z, quot_is, quot_fits, fits_signed_mul}
use borrow.Author.Differences.{below_in, at_most_in, same_in, fits_in}
use Rattle.fx_core.specs.declared.quotient.Mode.{Mode}
use Rattle.fx_core.specs.declared.quotient.Mode.TheVariants.{Zero, Floor, Near}
use Rattle.fx_core.specs.Rounding.{IsLeastQuotientAbove, Rounds, ShiftRounds, least_quotient_above, power, rounded, shifted_rounded}
use Rattle.fx_core.proofs.Integers.{next-*ℤ, previous-*ℤ}
use Rattle.fx_core.proofs.WordSteps.{word_of}
use Rattle.fx_core.proofs.RoundingLaws.{least_quotient_above_bounds, least_quotient_above_from_bounds, rounded_from_rounds, rounds-rounded, shift_rounds-shifted_rounded}

-- a number as a word that was passed
abbrev pub word : ℤ → ℤ
word z = word_of w128 z

-- what a function gives is the relation's number where it is the definition's
pub rounds_of_value : (m m' : Mode) (n d r : ℤ) → pos 1 ≤ℤ d → m ≡ m' → r ≡ rounded m' (word n) (word d) → FitsSigned w128 n → FitsSigned w128 d → FitsSigned w128 r → Rounds m n d (word r)
rounds_of_value m m' n d r one same e f g h =
    let plain = rw (to_z-of_z w128 n f, to_z-of_z w128 d g) at e in
    subst (Rounds m n d) (sym (to_z-of_z w128 r h ∙ plain ∙ ap (λ k. rounded k n d) (sym same))) (rounds-rounded m n d one)

-- `n / d` of words rounds toward zero
pub quotient_word : (n d : ℤ) → pos 1 ≤ℤ d → FitsSigned w128 n → FitsSigned w128 d → word (int_div (word n) (word d)) ≡ rounded Zero n d
unfolding rounded
quotient_word n d one f g = quot_is w128 n d f g (quot_fits w128 n d f (below_in _ _ (omega (arith, ints, one))))

-- the quotient whose remainder is not negative is the one rounded downward
pub euclid_quotient : (n d : ℤ) → pos 1 ≤ℤ d → int_div_euclid n d ≡ rounded Floor n d
unfolding rounded
euclid_quotient n (negsuc k) one = absurd one.le
euclid_quotient (pos n) (pos k) one = refl
euclid_quotient (negsuc n) (pos k) one = refl

-- so a word's `div_euclid` rounds downward
pub downward_word : (n d q : ℤ) → pos 1 ≤ℤ d → FitsSigned w128 n → FitsSigned w128 d → FitsSigned w128 q → q ≡ int_div_euclid (word n) (word d) → word q ≡ rounded Floor n d
downward_word n d q one f g h e =
    let plain = rw (to_z-of_z w128 n f, to_z-of_z w128 d g) at e in
    to_z-of_z w128 q h ∙ plain ∙ euclid_quotient n d one

-- the quotient rounded downward and that remainder make up the dividend
pub floor_rest : (n d : ℤ) → pos 1 ≤ℤ d → n ≡ rounded Floor n d *ℤ d +ℤ int_rem_euclid n d
unfolding rounded
floor_rest n (negsuc k) one = absurd one.le
floor_rest (pos n) (pos k) one = same_in _ _ (omega (arith, ints, div-add-mod' n k))
floor_rest (negsuc n) (pos k) one =
    let p : zero < k = omega (arith, ints, one) in
    same_in _ _ (omega (arith, ints, div-add-mod' n k, mod-lt n p))

-- where the rest is at least what is left of the divisor, the next whole number is the nearest
pub near_above : (n d r rest : ℤ) → pos 1 ≤ℤ d → n ≡ r *ℤ d +ℤ rest → pos 0 ≤ℤ rest → rest <ℤ d → (d -ℤ rest) ≤ℤ rest → r +ℤ pos 1 ≡ rounded Near n d
near_above n (negsuc k) r rest one e low high more = absurd one.le
near_above n (pos k) r rest one e low high more =
    let next : (r +ℤ pos 1) *ℤ pos k ≡ r *ℤ pos k +ℤ pos k = next-*ℤ r (pos k) in
    rounded_from_rounds Near n (pos k) (r +ℤ pos 1) one (below_in _ _ (omega (arith, ints, next, e, low, high, more)), at_most_in _ _ (omega (arith, ints, next, e, low, high, more)))

-- and where it is less, the quotient itself is
pub near_below : (n d r rest : ℤ) → pos 1 ≤ℤ d → n ≡ r *ℤ d +ℤ rest → pos 0 ≤ℤ rest → rest <ℤ d → rest <ℤ (d -ℤ rest) → r ≡ rounded Near n d
near_below n (negsuc k) r rest one e low high more = absurd one.le
near_below n (pos k) r rest one e low high more =
    rounded_from_rounds Near n (pos k) r one (below_in _ _ (omega (arith, ints, e, low, high, more)), at_most_in _ _ (omega (arith, ints, e, low, high, more)))

-- where something is left over, the next whole number is a word too
pub next_fits : (n d r rest : ℤ) → pos 1 ≤ℤ d → n ≡ r *ℤ d +ℤ rest → pos 1 ≤ℤ rest → FitsSigned w128 n → FitsSigned w128 r → FitsSigned w128 (r +ℤ pos 1)
next_fits n (negsuc k) r rest one e some f g = absurd one.le
next_fits n (pos k) (pos r) rest one e some f g =
    let grows : r * 1 ≤ r * k = mul-le-mul_left r (omega (arith, ints, one)) in
    fits_in w128 _ (omega (arith, ints))
next_fits n (pos k) (negsuc r) rest one e some f g = fits_in w128 _ (omega (arith, ints))

-- n is r times d and a rest below d
pub record IsSplit (n d r rest : ℤ) : Type 0 where
  pub sum : n ≡ r *ℤ d +ℤ rest
  pub low : pos 0 ≤ℤ rest
  pub high : rest <ℤ d

-- the quotient rounded downward and the remainder that is not negative, as the functions give them
pub split_word : (n d r rest : ℤ) → pos 1 ≤ℤ d → FitsSigned w128 n → FitsSigned w128 d → r ≡ rounded Floor (word n) (word d) → rest ≡ int_rem_euclid (word n) (word d) → IsNonNegative rest → unsigned_abs rest < unsigned_abs (word d) → IsSplit n d r rest
split_word n d r rest one f g e e' low high =
    let q = rw (to_z-of_z w128 n f, to_z-of_z w128 d g) at e in
    let p = rw (to_z-of_z w128 n f, to_z-of_z w128 d g) at e' in
    let high' = rw (to_z-of_z w128 d g) at high in
    record {
      sum = rw (q, p) (floor_rest n d one);
      low = at_most_in _ _ (omega (arith, ints));
      high = below_in _ _ (omega (arith, ints, one));
    }

-- the comparison of the rest with what is left of the divisor
pub rest_reaches : (d rest : ℤ) → FitsSigned w128 d → FitsSigned w128 rest → pos 0 ≤ℤ rest → rest <ℤ d → int_le (word (word d -ℤ word rest)) (word rest) ≡ true → (d -ℤ rest) ≤ℤ rest
rest_reaches d rest f g low high test = at_most_in _ _ (omega (arith, ints))

-- and the same comparison where it fails
pub rest_falls_short : (d rest : ℤ) → FitsSigned w128 d → FitsSigned w128 rest → pos 0 ≤ℤ rest → rest <ℤ d → int_le (word (word d -ℤ word rest)) (word rest) ≡ false → rest <ℤ (d -ℤ rest)
rest_falls_short d rest f g low high test = below_in _ _ (omega (arith, ints))

-- the next whole number is a word, it is the nearest, or the quotient itself is
pub nearest_fits : (n d r rest : ℤ) → pos 1 ≤ℤ d → FitsSigned w128 n → FitsSigned w128 d → FitsSigned w128 r → FitsSigned w128 rest → IsSplit n d r rest → int_le (word (word d -ℤ word rest)) (word rest) ≡ true → FitsSigned w128 (word r +ℤ pos 1)
nearest_fits n d r rest one f g h i split test =
    let more : (d -ℤ rest) ≤ℤ rest = rest_reaches d rest g i split.low split.high test in
    let some : pos 1 ≤ℤ rest = at_most_in _ _ (omega (arith, ints, one)) in
    rw (to_z-of_z w128 r h) (next_fits n d r rest one split.sum some f h)

pub nearest_above : (n d r rest : ℤ) → pos 1 ≤ℤ d → FitsSigned w128 n → FitsSigned w128 d → FitsSigned w128 r → FitsSigned w128 rest → IsSplit n d r rest → int_le (word (word d -ℤ word rest)) (word rest) ≡ true → word (word r +ℤ pos 1) ≡ rounded Near n d
nearest_above n d r rest one f g h i split test =
    let more : (d -ℤ rest) ≤ℤ rest = rest_reaches d rest g i split.low split.high test in
    to_z-of_z w128 _ (nearest_fits n d r rest one f g h i split test) ∙ ap (λ t. t +ℤ pos 1) (to_z-of_z w128 r h) ∙ near_above n d r rest one split.sum split.low split.high more

pub nearest_below : (n d r rest : ℤ) → pos 1 ≤ℤ d → FitsSigned w128 n → FitsSigned w128 d → FitsSigned w128 r → FitsSigned w128 rest → IsSplit n d r rest → int_le (word (word d -ℤ word rest)) (word rest) ≡ false → word r ≡ rounded Near n d
nearest_below n d r rest one f g h i split test =
    let less : rest <ℤ (d -ℤ rest) = rest_falls_short d rest g i split.low split.high test in
    to_z-of_z w128 r h ∙ near_below n d r rest one split.sum split.low split.high less

-- ---- shifts

-- a factor of at most 2 ^ 31 leaves the product of a number of at most 2 ^ 90 in a word
pub shifted_fits : (n e f : ℤ) (k : ℕ) → unsigned_abs n ≤ 2 ^ 90 → negsuc 30 ≤ℤ e → e ≤ℤ pos 31 → FitsSigned w128 n → FitsSigned w32 e → FitsSigned w128 f → k ≡ unsigned_abs (to_z w32 (of_z w32 e)) → f ≡ power k → FitsSigned w128 (word n *ℤ word f)
shifted_fits n e f k size right left g h i same is =
    let small : k ≤ 31 = omega (arith, ints) in
    let bound : 2 ^ k ≤ 2 ^ 31 = pow-le-pow_right (lit< tt) small in
    rw (to_z-of_z w128 n g, to_z-of_z w128 f i, is) (fits_signed_mul w128 n (power k) (2 ^ 90) (2 ^ 31) size bound (lit< tt))

-- the absolute value of a word is that of its number
factor_of : (e : ℤ) (k : ℕ) → FitsSigned w32 e → k ≡ unsigned_abs (to_z w32 (of_z w32 e)) → k ≡ unsigned_abs e
factor_of e k h same = rw (to_z-of_z w32 e h) at same

-- a shift by 0 or more multiplies, and one below 0 rounds a quotient
left_is : (m : Mode) (n e : ℤ) → pos 0 ≤ℤ e → n *ℤ power (unsigned_abs e) ≡ shifted_rounded m n e
unfolding shifted_rounded
left_is m n (pos e) h = refl
left_is m n (negsuc e) h = absurd h.le

right_is : (m : Mode) (n e : ℤ) → e <ℤ pos 0 → rounded m n (power (unsigned_abs e)) ≡ shifted_rounded m n e
unfolding shifted_rounded
right_is m n (pos e) h = absurd (omega (arith, ints, h))
right_is m n (negsuc e) h = refl

-- what the two branches of a shift give
pub shifted_left : (m : Mode) (n e f : ℤ) (k : ℕ) → FitsSigned w128 n → FitsSigned w32 e → FitsSigned w128 f → FitsSigned w128 (word n *ℤ word f) → k ≡ unsigned_abs (to_z w32 (of_z w32 e)) → f ≡ power k → int_le (pos 0) (to_z w32 (of_z w32 e)) ≡ true → word (word n *ℤ word f) ≡ shifted_rounded m n e
shifted_left m n e f k g h i fits same is test =
    let order : pos 0 ≤ℤ e = at_most_in _ _ (omega (arith, ints)) in
    to_z-of_z w128 _ fits ∙ rw (to_z-of_z w128 n g, to_z-of_z w128 f i, is, factor_of e k h same) (left_is m n e order)

pub shifted_right : (m : Mode) (n e f r : ℤ) (k : ℕ) → FitsSigned w128 n → FitsSigned w32 e → FitsSigned w128 f → FitsSigned w128 r → k ≡ unsigned_abs (to_z w32 (of_z w32 e)) → f ≡ power k → int_le (pos 0) (to_z w32 (of_z w32 e)) ≡ false → r ≡ rounded m (word n) (word f) → word r ≡ shifted_rounded m n e
shifted_right m n e f r k g h i j same is test value =
    let order : e <ℤ pos 0 = below_in _ _ (omega (arith, ints)) in
    to_z-of_z w128 _ j ∙ value ∙ rw (to_z-of_z w128 n g, to_z-of_z w128 f i, is, factor_of e k h same) (right_is m n e order)

-- and so the relation
pub shift_rounds : (m : Mode) (n e r : ℤ) → r ≡ shifted_rounded m n e → ShiftRounds m n e r
shift_rounds m n e r value = subst (ShiftRounds m n e) (sym value) (shift_rounds-shifted_rounded m n e)

-- ---- the least whole number above

-- where something is left over, the next whole number is the least above, and it is a word
pub above_next : (n d r rest : ℤ) → pos 1 ≤ℤ d → FitsSigned w128 r → FitsSigned w128 rest → FitsSigned w128 (word r +ℤ pos 1) → IsSplit n d r rest → int_lt (pos 0) (word rest) ≡ true → word (word r +ℤ pos 1) ≡ least_quotient_above n d
above_next n (negsuc k) r rest one h i fits split test = absurd one.le
above_next n (pos k) r rest one h i fits split test =
    let next : (r +ℤ pos 1) *ℤ pos k ≡ r *ℤ pos k +ℤ pos k = next-*ℤ r (pos k) in
    let before : (r +ℤ pos 1 -ℤ pos 1) *ℤ pos k ≡ r *ℤ pos k = ap (λ t. t *ℤ pos k) (omega (arith, ints)) in
    to_z-of_z w128 _ fits ∙ ap (λ t. t +ℤ pos 1) (to_z-of_z w128 r h) ∙ least_quotient_above_from_bounds n (pos k) (r +ℤ pos 1) one (at_most_in _ _ (omega (arith, ints, next, split.sum, split.high)), below_in _ _ (omega (arith, ints, before, split.sum, test)))

pub above_next_fits : (n d r rest : ℤ) → pos 1 ≤ℤ d → FitsSigned w128 n → FitsSigned w128 r → FitsSigned w128 rest → IsSplit n d r rest → int_lt (pos 0) (word rest) ≡ true → FitsSigned w128 (word r +ℤ pos 1)
above_next_fits n d r rest one f h i split test =
    let some : pos 1 ≤ℤ rest = at_most_in _ _ (omega (arith, ints)) in
    rw (to_z-of_z w128 r h) (next_fits n d r rest one split.sum some f h)

-- where nothing is left over, the quotient itself is
pub above_same : (n d r rest : ℤ) → pos 1 ≤ℤ d → FitsSigned w128 r → FitsSigned w128 rest → IsSplit n d r rest → int_lt (pos 0) (word rest) ≡ false → word r ≡ least_quotient_above n d
above_same n (negsuc k) r rest one h i split test = absurd one.le
above_same n (pos k) r rest one h i split test =
    let before : (r -ℤ pos 1) *ℤ pos k ≡ r *ℤ pos k -ℤ pos k = previous-*ℤ r (pos k) in
    to_z-of_z w128 _ h ∙ least_quotient_above_from_bounds n (pos k) r one (at_most_in _ _ (omega (arith, ints, split.sum, test, split.low)), below_in _ _ (omega (arith, ints, before, split.sum, split.low, one)))

-- and so the relation
pub above_bounds : (n d r : ℤ) → pos 1 ≤ℤ d → r ≡ least_quotient_above n d → IsLeastQuotientAbove n d r
above_bounds n d r one value = subst (IsLeastQuotientAbove n d) (sym value) (least_quotient_above_bounds n d one)

-- a quotient by a power of two toward zero, of a word without its last digits
pub quotient_by_power : (m : Mode) (n d r : ℤ) (k : ℕ) → m ≡ Zero → d ≡ power k → FitsSigned w128 n → FitsSigned w128 r → r ≡ int_div (word n) (power k) → word r ≡ rounded m n d
unfolding rounded
quotient_by_power m n d r k toward same f g is =
    let plain = rw (to_z-of_z w128 n f) at is in
    subst (λ (a : Mode). word r ≡ rounded a n d) (sym toward) (to_z-of_z w128 r g ∙ plain ∙ ap (int_div n) (sym same))
