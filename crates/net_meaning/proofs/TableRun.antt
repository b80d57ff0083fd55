-- The computed table is a run.
use Rattle.std.specs.Prelude.{◌≡◌, ℕ, zero, suc, ◌+◌, ◌<◌, ◌≤◌, List, [], ◌∷◌, length, get_or, drop, ℤ, pos}
use Rattle.std.proofs.Common.{refl, sym, ap, ◌∙◌, arith, inl, inr}
use Rattle.std.proofs.lemmas.Bool.{cases_eq}
use Rattle.std.proofs.lemmas.List.{get_or_append_left, get_or_push, length_push}
use Rattle.net_model.specs.Wires.{NetData, wire_at}
use Rattle.net_meaning.specs.Cells.{Cell, Meaning, plain, cell_at, cells_from}
use Rattle.net_meaning.specs.Runs.{HasAllInputs, equation, row_of, table}
use Rattle.net_meaning.specs.Promises.{Keeps}
use Rattle.net_meaning.specs.RunLaws.{TableIsRun}
use Rattle.net_meaning.proofs.Arguments.{IsOrdered, arguments_earlier}
use Rattle.net_meaning.proofs.Equations.{same_equation, same_readings}

-- a row of n wires has n cells
row-length : {V : Type 0} (M : Meaning V) (net : NetData) (rows : List (List ℤ)) (past : List (List (Cell V))) (n : ℕ) → length (row_of M net rows past n) ≡ n
unfolding row_of
row-length M net rows past zero = refl
row-length M net rows past (suc n) = length_push _ _ ∙ omega (arith, row-length M net rows past n)

-- more wires leave the cells of the first ones
pub row-prefix : {V : Type 0} (M : Meaning V) (net : NetData) (rows : List (List ℤ)) (past : List (List (Cell V))) (d : Cell V) (m n i : ℕ) → i < m → m ≤ n → get_or (row_of M net rows past n) i d ≡ get_or (row_of M net rows past m) i d
unfolding row_of
row-prefix M net rows past d m zero i h l = absurd (omega arith)
row-prefix M net rows past d m (suc n) i h l =
    elim (cases_eq m (suc n)) [
      | inl e ↦ ap (λ k. get_or (row_of M net rows past k) i d) (sym e)
      | inr ne ↦ get_or_append_left (row_of M net rows past n) _ d i (omega (arith, row-length M net rows past n)) ∙ row-prefix M net rows past d m n i h (omega arith)
    ]

-- the last of the first wires meets its equation over those before it
row-last : {V : Type 0} (M : Meaning V) (net : NetData) (rows : List (List ℤ)) (past : List (List (Cell V))) (d : Cell V) (i : ℕ) → get_or (row_of M net rows past (suc i)) i d ≡ equation M net rows (cell_at M (row_of M net rows past i ∷ past)) i
unfolding row_of
row-last M net rows past d i = get_or_push (row_of M net rows past i) _ d i (row-length M net rows past i)

-- so each meets it over the whole row
pub row-meets : {V : Type 0} (M : Meaning V) (net : NetData) → IsOrdered net → (rows : List (List ℤ)) (past : List (List (Cell V))) (i : ℕ) → i < length net.wires → cell_at M (row_of M net rows past (length net.wires) ∷ past) 0 i ≡ equation M net rows (cell_at M (row_of M net rows past (length net.wires) ∷ past)) i
row-meets M net ordered rows past i h =
    let n = length net.wires in
    let zeros = plain M (pos 0) in
    row-prefix M net rows past zeros (suc i) n i (omega arith) (omega arith)
    ∙ row-last M net rows past zeros i
    ∙ same_equation M net rows (cell_at M (row_of M net rows past i ∷ past)) (cell_at M (row_of M net rows past n ∷ past)) i (wire_at net.wires i).item (ordered i h) (λ k l. sym (row-prefix M net rows past zeros i n k l (omega arith))) (λ ago k. refl)

-- the same rows by other names of their numbers
renumbered : {V : Type 0} (M : Meaning V) (net : NetData) (rows : List (List ℤ)) (c d : ℕ → ℕ → Cell V) (i : ℕ) → ((ago w : ℕ) → c ago w ≡ d ago w) → equation M net rows c i ≡ equation M net rows d i
renumbered M net rows c d i h = ap (λ cells. equation M net rows cells i) (same_readings c d h)

table-length : {V : Type 0} (M : Meaning V) (net : NetData) (rows : List (List ℤ)) → length (table M net rows) ≡ length rows
unfolding table
table-length M net [] = refl
table-length M net (row ∷ rows) = ap suc (table-length M net rows)

table-width : {V : Type 0} (M : Meaning V) (net : NetData) (rows : List (List ℤ)) (j : ℕ) → j < length rows → length (get_or (table M net rows) j []) ≡ length net.wires
unfolding table
table-width M net [] j h = absurd (omega arith)
table-width M net (row ∷ rows) zero h = row-length M net (row ∷ rows) (table M net rows) (length net.wires)
table-width M net (row ∷ rows) (suc j) h = table-width M net rows j (omega arith)

table-meets : {V : Type 0} (M : Meaning V) (net : NetData) → IsOrdered net → (rows : List (List ℤ)) (j i : ℕ) → j < length rows → i < length net.wires → cell_at M (table M net rows) j i ≡ equation M net (drop j rows) (cells_from M (table M net rows) j) i
unfolding table
table-meets M net ordered [] j i h l = absurd (omega arith)
table-meets M net ordered (row ∷ rows) zero i h l =
    row-meets M net ordered (row ∷ rows) (table M net rows) i l
    ∙ renumbered M net (row ∷ rows) (cell_at M (table M net (row ∷ rows))) (cells_from M (table M net (row ∷ rows)) 0) i (λ ago w. ap (λ n. cell_at M (table M net (row ∷ rows)) n w) (omega arith))
table-meets M net ordered (row ∷ rows) (suc j) i h l =
    table-meets M net ordered rows j i (omega arith) l
    ∙ renumbered M net (drop j rows) (cells_from M (table M net rows) j) (cells_from M (table M net (row ∷ rows)) (suc j)) i (λ ago w. ap (λ n. cell_at M (table M net (row ∷ rows)) n w) (next j ago))
  where
    next : (j ago : ℕ) → suc (j + ago) ≡ suc j + ago
    next j ago = omega arith

pub table_is_run : {V : Type 0} (M : Meaning V) → TableIsRun M
table_is_run M net valid rows all = record {
  inputs = all;
  long = table-length M net rows;
  wide = table-width M net rows;
  meets = table-meets M net (arguments_earlier net valid) rows;
}

-- rows that keep to the declared ranges have all inputs
pub all_inputs : (net : NetData) (rows : List (List ℤ)) → Keeps net rows → HasAllInputs net rows
all_inputs net rows keeps j less = (keeps j less).one_each
