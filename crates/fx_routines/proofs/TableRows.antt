-- The rows at their places.
use Rattle.std.proofs.Common.{◌≡◌, ℕ, zero, suc, ◌+◌, ◌<◌, ◌≤◌, Bool, true, List, [], ◌∷◌, length, map, drop, find, slice_index_or, Some, None, refl, ap, subst, ◌∙◌, Bor, arith, add-one, drop-cons}
use Rattle.std.proofs.lemmas.List.{drop_all}
use Rattle.fx_routines.specs.declared.operation.Types.{Types}
use Rattle.fx_routines.specs.declared.shape.Shape.{Shape}
use Rattle.fx_routines.specs.declared.table.Routine.{Routine}
use Rattle.fx_routines.specs.Rows.{Row, rows, row_at, IsAt}
use Rattle.fx_routines.specs.Reading.{named_among, row_named}

-- a row as the code has it
abbrev pub Seen : Type 0
Seen = Routine × Bor (List ℕ) × Shape

-- the row of the definitions that it is
abbrev pub as_row : Seen → Row
as_row r = (r.0, record { now = r.1.now }, r.2)

as_row_at : (xs : List Seen) (ys : List Row) (i : ℕ) (d : Seen) (e : Row)
    → map as_row xs ≡ ys → i < length ys → as_row (slice_index_or xs i d) ≡ slice_index_or ys i e
as_row_at [] ys i d e h lt = subst (λ l. i < length l → as_row d ≡ slice_index_or l i e) h (λ lt. absurd (omega arith)) lt
as_row_at (x ∷ xs) ys zero d e h lt = subst (λ l. zero < length l → as_row x ≡ slice_index_or l zero e) h (λ _. refl) lt
as_row_at (x ∷ xs) ys (suc i) d e h lt =
    subst (λ l. suc i < length l → as_row (slice_index_or xs i d) ≡ slice_index_or l (suc i) e) h
    (λ lt. as_row_at xs (map as_row xs) i d e refl (omega arith)) lt

pub length-rows : length rows ≡ 70
unfolding rows
length-rows = refl

-- the code's row at a place is that of the definitions
pub seen_at : (xs : List Seen) (i : ℕ) (r : Seen) → IsAt xs i r → map as_row xs ≡ rows → i < 70 → as_row r ≡ row_at i
seen_at xs i r h same lt = ap as_row h.is ∙ as_row_at xs rows i r _ same (rw length-rows lt)

-- the rows from a place on begin with the row there
row_here : (i : ℕ) → i < 70 → drop i rows ≡ row_at i ∷ drop (i + 1) rows
row_here i lt = rw (add-one i) (drop-cons rows i _ (rw length-rows lt))

no_row : (i : ℕ) → 70 ≤ i → drop i rows ≡ []
no_row i h = drop_all i rows (rw length-rows h)

pub find_here : (p : Row → Bool) (i : ℕ) → i < 70 → p (row_at i) ≡ true → find p (drop i rows) ≡ Some (row_at i)
find_here p i lt h = rw (row_here i lt, h) refl

pub find_none : (p : Row → Bool) (i : ℕ) → 70 ≤ i → find p (drop i rows) ≡ None
find_none p i h = rw (no_row i h) refl

pub named_here : (i : ℕ) (word : List ℕ) (found : Routine × Types) → i < 70 → row_named (row_at i) word ≡ Some found → named_among (drop i rows) word ≡ Some found
named_here i word found lt h = rw (row_here i lt, h) refl

pub named_later : (i : ℕ) (word : List ℕ) → i < 70 → row_named (row_at i) word ≡ None → named_among (drop (i + 1) rows) word ≡ named_among (drop i rows) word
named_later i word lt h = rw (row_here i lt, h) refl

pub named_none : (i : ℕ) (word : List ℕ) → 70 ≤ i → named_among (drop i rows) word ≡ None
named_none i word h = rw (no_row i h) refl
