-- The sums of windows of inputs.
use Rattle.std.proofs.Common.{◌≡◌, ℕ, zero, suc, ◌*◌, ◌<◌, ◌≤◌, ◌^◌, ℤ, pos, ◌+ℤ◌, ◌-ℤ◌, ◌*ℤ◌, List, [], ◌∷◌, length, get_or, take, replicate, refl, sym, ap, ap₂, ◌∙◌, arith}
use Rattle.std.specs.Prelude.{All, unsigned_abs}
use Rattle.std.proofs.lemmas.List.{get_or-replicate, get_or-take, length-replicate, length-take, length-take-le}
use Rattle.std.proofs.lemmas.Int.{ints}
use borrow.Author.Differences.{same_in}
use Rattle.fx_fraction.specs.Fraction.{whole, plus, divided, quotient}
use Rattle.fx_core.specs.declared.quotient.Mode.TheVariants.{Near}
use Rattle.fx_core.specs.declared.word_type.Ty.{Ty}
use Rattle.fx_core.specs.declared.word_type.Ty.TheVariants.{U8, S8, U16, S16, U32, S32}
use Rattle.fx_core.specs.Rounding.{rounded}
use Rattle.fx_core.specs.Types.{Holds, saturated}
use Rattle.fx_core.specs.Values.{rounded_fraction}
use Rattle.fx_core.proofs.TypeLaws.{held_within}
use Rattle.efx_filters.specs.Formulas.{average_formula, sum_of}
use Rattle.efx_filters.specs.States.{AverageData, average_value, input_ago}
use Rattle.efx_filters.specs.Windows.{total}

-- zeros have the sum 0
pub total-zeros : (n : ℕ) → total (replicate n (pos 0)) ≡ pos 0
unfolding total
total-zeros zero = refl
total-zeros (suc n) = ap (λ t. pos 0 +ℤ t) (total-zeros n)

-- without the last number the sum is less by it
pub total-last : (x : ℤ) (xs : List ℤ) → total (take (length xs) (x ∷ xs)) +ℤ get_or (x ∷ xs) (length xs) (pos 0) ≡ x +ℤ total xs
unfolding total
total-last x [] = omega (arith, ints)
total-last x (y ∷ ys) =
    let rest = total-last y ys in
    same_in _ _ (omega (arith, ints, rest))

-- numbers of a type, as many as there are
pub total-small : (t : Ty) (xs : List ℤ) → All (Holds t) xs → unsigned_abs (total xs) ≤ length xs * 2 ^ 32
unfolding total
total-small t [] held = omega arith
total-small t (x ∷ xs) held =
    let first = held_within t x (held 0 (pos 0) (omega arith)) in
    let rest = total-small t xs (λ k d h. held (suc k) d (omega (arith, h))) in
    omega (arith, ints, first.0, first.1, rest)

-- the first n numbers of a function, summed
sum_below : ℕ → (ℕ → ℤ) → ℤ
sum_below zero f = pos 0
sum_below (suc n) f = sum_below n f +ℤ f n

-- the first number can be taken first
sum_first : (n : ℕ) (f : ℕ → ℤ) → sum_below (suc n) f ≡ f 0 +ℤ sum_below n (λ i. f (suc i))
unfolding sum_below
sum_first zero f = omega (arith, ints)
sum_first (suc n) f =
    let rest = sum_first n f in
    omega (arith, ints, rest)

-- a list's numbers have its sum
sum_below-list : (xs : List ℤ) → sum_below (length xs) (λ i. get_or xs i (pos 0)) ≡ total xs
unfolding total sum_below
sum_below-list [] = refl
sum_below-list (x ∷ xs) = sum_first (length xs) (λ i. get_or (x ∷ xs) i (pos 0)) ∙ ap (λ t. x +ℤ t) (sum_below-list xs)

times_one : (n : ℤ) → n *ℤ pos 1 ≡ n
times_one n = omega (arith, ints)

-- a sum of whole numbers
whole_sums : (n : ℕ) (f : ℕ → ℤ) → sum_of n (λ i. whole (f i)) ≡ whole (sum_below n f)
unfolding whole plus sum_below
whole_sums zero f = refl
whole_sums (suc n) f =
    ap (λ s. plus s (whole (f n))) (whole_sums n f)
    ∙ ap (λ z. record { numer = z; less = 0 }) (ap₂ (λ s t. s +ℤ t) (times_one (sum_below n f)) (times_one (f n)))

-- a whole number over a count
whole_over : (s : ℤ) (m : ℕ) → divided (whole s) (whole (pos (suc m))) ≡ record { numer = s; less = m }
unfolding whole divided quotient
whole_over s m = ap₂ quotient (times_one s) (times_one (pos (suc m)))

-- the mean of an input and those of a window before
formula_is : (window : List ℤ) (x : ℤ) → average_formula (suc (length window)) (input_ago window x) ≡ record { numer = x +ℤ total window; less = length window }
unfolding average_formula total
formula_is window x =
    ap (λ s. divided s (whole (pos (suc (length window))))) (whole_sums (suc (length window)) (λ i. get_or (x ∷ window) i (pos 0)) ∙ ap whole (sum_below-list (x ∷ window)))
    ∙ whole_over (x +ℤ total window) (length window)

-- the value of an average, from the sum of its inputs
pub is_average : (average : AverageData) (x sum : ℤ) → suc (length average.window) ≡ average.n → sum ≡ x +ℤ total average.window → saturated average.o (rounded Near sum (pos average.n)) ≡ average_value average x
unfolding average_value
is_average average x sum count e =
    ap (saturated average.o) (
    ap₂ (λ s n. rounded Near s (pos n)) e (sym count)
    ∙ ap (rounded_fraction Near) (sym (formula_is average.window x))
    ∙ ap (λ n. rounded_fraction Near (average_formula n (input_ago average.window x))) count
    )

-- ---- what an average keeps

-- what an average keeps of its inputs in words: as many as it has rows but one, numbers of its type, and their sum
abbrev pub IsKept : Ty → ℕ → ℤ → List ℤ → Type 0
IsKept t n sum window = (suc (length window) ≡ n) × (n ≤ 1024) × (sum ≡ total window) × All (Holds t) window

zero_held : (t : Ty) → Holds t (pos 0)
zero_held U8 = (record { le = tt }, record { le = tt })
zero_held S8 = (record { le = tt }, record { le = tt })
zero_held U16 = (record { le = tt }, record { le = tt })
zero_held S16 = (record { le = tt }, record { le = tt })
zero_held U32 = (record { le = tt }, record { le = tt })
zero_held S32 = (record { le = tt }, record { le = tt })

-- zeros at the start
pub zeros_kept : (t : Ty) (n len : ℕ) (window : List ℤ) → window ≡ replicate len (pos 0) → suc len ≡ n → n ≤ 1024 → IsKept t n (pos 0) window
zeros_kept t n len window e count few = rw e (
  ap suc (length-replicate len (pos 0)) ∙ count,
  few,
  sym (total-zeros len),
  λ k d h. rw (get_or-replicate len k (pos 0) d (omega (arith, h, length-replicate len (pos 0)))) (zero_held t),
)

-- numbers of a type with one more in front
held_front : (t : Ty) (x : ℤ) (xs : List ℤ) → Holds t x → All (Holds t) xs → All (Holds t) (x ∷ xs)
held_front t x xs first rest zero d h = first
held_front t x xs first rest (suc k) d h = rest k d (omega (arith, h))

-- the first of them
held_take : (t : Ty) (n : ℕ) (xs : List ℤ) → All (Holds t) xs → All (Holds t) (take n xs)
held_take t n xs held k d h =
    let shorter = length-take n xs in
    rw (get_or-take n xs k d (omega (arith, h, shorter))) (held k d (omega (arith, h, shorter)))

-- the sum is small
pub kept_small : (t : Ty) (n : ℕ) (sum : ℤ) (window : List ℤ) → IsKept t n sum window → unsigned_abs sum < 2 ^ 42
kept_small t n sum window (count, few, e, held) =
    let small = total-small t window held in
    rw e (omega (arith, small, count, few))

-- one row more: x is put in front, and the last number drops out
pub kept_behind : (t : Ty) (n : ℕ) (sum x last next : ℤ) (window behind : List ℤ) → IsKept t n sum window → Holds t x → behind ≡ take (length window) (x ∷ window) → last ≡ get_or (x ∷ window) (length window) (pos 0) → next ≡ sum +ℤ x -ℤ last → IsKept t n next behind
kept_behind t n sum x last next window behind (count, few, e, held) first is_behind is_last is_next = rw is_behind (
  ap suc (length-take-le (length window) (x ∷ window) (omega arith)) ∙ count,
  few,
  same_in _ _ (omega (arith, ints, is_next, e, is_last, total-last x window)),
  held_take t (length window) (x ∷ window) (held_front t x window first held),
)

-- the number that drops out is of the type
pub last_held : (t : Ty) (x last : ℤ) (window : List ℤ) → Holds t x → All (Holds t) window → last ≡ get_or (x ∷ window) (length window) (pos 0) → Holds t last
last_held t x last window first held e = rw e (held_front t x window first held (length window) (pos 0) (omega arith))
