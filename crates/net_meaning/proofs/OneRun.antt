-- Two runs over the same rows are one: their cells agree from the oldest row on, and within a row wire by wire.
use Rattle.std.specs.Prelude.{◌≡◌, ℕ, zero, suc, ◌+◌, ◌<◌, ◌≤◌, List, [], length, get_or, drop, ℤ, pos}
use Rattle.std.proofs.Common.{sym, ap, ◌∙◌, subst, arith, inl, inr}
use Rattle.std.proofs.lemmas.Bool.{cases_lt}
use Rattle.std.proofs.lemmas.List.{get_or_past, ext_get_or}
use Rattle.net_model.specs.Wires.{NetData, wire_at}
use Rattle.net_meaning.specs.Cells.{Cell, Meaning, plain, cell_at, cells_from}
use Rattle.net_meaning.specs.Runs.{IsRun}
use Rattle.net_meaning.specs.RunLaws.{RunsAgree}
use Rattle.net_meaning.proofs.Arguments.{IsOrdered, arguments_earlier}
use Rattle.net_meaning.proofs.Equations.{same_equation, by_smaller}

-- before the first row all is 0
before_first : {V : Type 0} (M : Meaning V) (t : List (List (Cell V))) (j i : ℕ) → length t ≤ j → cell_at M t j i ≡ plain M (pos 0)
before_first M t j i h = ap (λ row. get_or row i (plain M (pos 0))) (get_or_past t j [] h)

-- and so it is behind the last wire
behind_last : {V : Type 0} (M : Meaning V) (t : List (List (Cell V))) (j i : ℕ) → length (get_or t j []) ≤ i → cell_at M t j i ≡ plain M (pos 0)
behind_last M t j i h = get_or_past (get_or t j []) i (plain M (pos 0)) h

-- a wire's cells agree where those of the wires before it and of the older rows do
cell_agrees : {V : Type 0} (M : Meaning V) (net : NetData) → IsOrdered net → (rows : List (List ℤ)) (t u : List (List (Cell V))) → IsRun M net rows t → IsRun M net rows u → (j : ℕ) → j < length rows → ((ago w : ℕ) → cell_at M t (j + suc ago) w ≡ cell_at M u (j + suc ago) w) → (i : ℕ) → i < length net.wires → ((k : ℕ) → k < i → cell_at M t j k ≡ cell_at M u j k) → cell_at M t j i ≡ cell_at M u j i
cell_agrees M net ordered rows t u p q j less older i narrow before =
    p.meets j i less narrow
    ∙ same_equation M net (drop j rows) (cells_from M t j) (cells_from M u j) i (wire_at net.wires i).item (ordered i narrow) (λ k l. subst (λ n. cell_at M t n k ≡ cell_at M u n k) (omega arith) (before k l)) older
    ∙ sym (q.meets j i less narrow)

-- a row's cells agree where those of the older rows do
row_agrees : {V : Type 0} (M : Meaning V) (net : NetData) → IsOrdered net → (rows : List (List ℤ)) (t u : List (List (Cell V))) → IsRun M net rows t → IsRun M net rows u → (j : ℕ) → j < length rows → ((ago w : ℕ) → cell_at M t (j + suc ago) w ≡ cell_at M u (j + suc ago) w) → (i : ℕ) → cell_at M t j i ≡ cell_at M u j i
row_agrees M net ordered rows t u p q j less older i =
    elim (cases_lt i (length net.wires)) [
      | inl narrow ↦ by_smaller (λ k. k < length net.wires → cell_at M t j k ≡ cell_at M u j k) (λ k before l. cell_agrees M net ordered rows t u p q j less older k l (λ w under. before w under (omega arith))) (suc i) i (omega arith) narrow
      | inr wide ↦ behind_last M t j i (omega (arith, p.wide j less)) ∙ sym (behind_last M u j i (omega (arith, q.wide j less)))
    ]

-- the cells agree from row j on, which at most n rows follow
cells_agree : {V : Type 0} (M : Meaning V) (net : NetData) → IsOrdered net → (rows : List (List ℤ)) (t u : List (List (Cell V))) → IsRun M net rows t → IsRun M net rows u → (n j : ℕ) → length rows ≤ j + n → (i : ℕ) → cell_at M t j i ≡ cell_at M u j i
cells_agree M net ordered rows t u p q zero j h i = before_first M t j i (omega (arith, p.long)) ∙ sym (before_first M u j i (omega (arith, q.long)))
cells_agree M net ordered rows t u p q (suc n) j h i =
    elim (cases_lt j (length rows)) [
      | inl less ↦ row_agrees M net ordered rows t u p q j less (λ ago w. cells_agree M net ordered rows t u p q n (j + suc ago) (omega arith) w) i
      | inr more ↦ before_first M t j i (omega (arith, p.long)) ∙ sym (before_first M u j i (omega (arith, q.long)))
    ]

pub runs_agree : {V : Type 0} (M : Meaning V) → RunsAgree M
runs_agree M net valid rows t u p q = ext_get_or [] t u (p.long ∙ sym q.long) (λ j h. ext_get_or (plain M (pos 0)) (get_or t j []) (get_or u j []) (p.wide j (omega (arith, p.long)) ∙ sym (q.wide j (omega (arith, p.long)))) (λ i l. cells_agree M net (arguments_earlier net valid) rows t u p q (length rows) j (omega arith) i))
