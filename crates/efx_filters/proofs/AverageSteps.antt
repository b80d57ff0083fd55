-- The sums of an average's step, as words give them.
use Rattle.std.proofs.Common.{◌≡◌, ℕ, ◌<◌, ◌^◌, lit≤, ℤ, pos, ◌+ℤ◌, ◌-ℤ◌, List, ◌∷◌, length, get_or, take, sym, ap, ◌∙◌, arith}
use Rattle.std.specs.Int.{w64}
use Rattle.std.specs.Prelude.{unsigned_abs}
use Rattle.std.proofs.lemmas.Int.{ints}
use Rattle.fx_core.specs.declared.word_type.Ty.{Ty}
use Rattle.fx_core.specs.Types.{Holds}
use Rattle.fx_core.proofs.TypeLaws.{held_within}
use Rattle.fx_core.proofs.WordSteps.{IsStep, difference_step, plain, sum_step, word_of}
use Rattle.efx_filters.proofs.WindowSums.{IsKept, kept_behind, kept_small, last_held}

abbrev word : ℤ → ℤ
word z = word_of w64 z

-- a number of a type is small
held_small : (t : Ty) (x : ℤ) → Holds t x → unsigned_abs x < 2 ^ 42
held_small t x held =
    let ends = held_within t x held in
    omega (arith, ints, ends.0, ends.1)

-- what is summed of the window and one more input
pub sum_word : (t : Ty) (n : ℕ) (sum x : ℤ) (window : List ℤ) → IsKept t n sum window → Holds t x → IsStep w64 (word sum +ℤ word x) (sum +ℤ x) (2 ^ 43)
sum_word t n sum x window kept held = sum_step w64 sum x (2 ^ 42) (2 ^ 42) (kept_small t n sum window kept) (held_small t x held) (lit≤ tt)

-- and what is left of it without the number that drops out
pub rest_word : (t : Ty) (n : ℕ) (sum x last : ℤ) (window : List ℤ) → IsKept t n sum window → Holds t x → last ≡ get_or (word x ∷ window) (length window) (pos 0) → IsStep w64 (word (word sum +ℤ word x) -ℤ word last) (sum +ℤ x -ℤ last) (2 ^ 44)
rest_word t n sum x last window kept held e =
    let whole = sum_word t n sum x window kept held in
    let size = rw whole.value at whole.size in
    let same : word (word sum +ℤ word x) ≡ word (sum +ℤ x) = whole.value ∙ sym (plain w64 (sum +ℤ x) (omega (arith, size))) in
    let e' = e ∙ ap (λ z. get_or (z ∷ window) (length window) (pos 0)) (plain w64 x (omega (arith, held_small t x held))) in
    let few = held_small t last (last_held t x last window held kept.3 e') in
    rw same (difference_step w64 (sum +ℤ x) last (2 ^ 43) (2 ^ 43) size (omega (arith, few)) (lit≤ tt))

-- so what an average keeps is right behind one more row
pub kept_in_words : (t : Ty) (n : ℕ) (sum x last : ℤ) (window behind : List ℤ) → IsKept t n sum window → Holds t x → behind ≡ take (length window) (word x ∷ window) → last ≡ get_or (word x ∷ window) (length window) (pos 0) → IsKept t n (word (word (word sum +ℤ word x) -ℤ word last)) behind
kept_in_words t n sum x last window behind kept held is_behind is_last =
    let same = plain w64 x (omega (arith, held_small t x held)) in
    kept_behind t n sum x last _ window behind kept held
    (is_behind ∙ ap (λ z. take (length window) (z ∷ window)) same)
    (is_last ∙ ap (λ z. get_or (z ∷ window) (length window) (pos 0)) same)
    (rest_word t n sum x last window kept held is_last).value
