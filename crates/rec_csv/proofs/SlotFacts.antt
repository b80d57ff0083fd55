-- A table by columns, made one input at a time.
use Rattle.std.proofs.Common.{◌≡◌, ◌≢◌, ℕ, zero, suc, ◌+◌, ◌<◌, List, length, get_or, set, replicate, refl, sym, ◌∙◌, inl, inr, arith, get_or-set_same, get_or-set_other, Option, Some, None}
use Rattle.std.proofs.lemmas.Bool.{cases_lt, cases_eq}
use Rattle.std.proofs.lemmas.List.{length-set}
use Rattle.rec_csv.specs.declared.columns.Column.{Column}
use Rattle.rec_csv.specs.Slots.{AreApart, AreSlots, column_at}

-- no input
abbrev nothing : Option ℕ
nothing = None

-- in empty slots stands nothing
empty : (width place : ℕ) → get_or (replicate width nothing) place nothing ≡ nothing
empty zero place = refl
empty (suc width) zero = refl
empty (suc width) (suc place) = empty width place

pub no_slots : (columns : List Column) (width : ℕ) → AreSlots 0 columns (replicate width nothing)
no_slots columns width = record {
  stands = λ k lt. absurd (omega (arith, lt));
  no_other = λ place k is. (let e = empty width place in cc);
}

-- one more input
stands_more : (columns : List Column) (width : ℕ) (slots : List (Option ℕ)) (i k : ℕ) → AreApart columns width → i < length columns → length slots ≡ width → AreSlots i columns slots → k < i + 1
    → ((column_at columns k).place < length (set slots (column_at columns i).place (Some i))) × (get_or (set slots (column_at columns i).place (Some i)) (column_at columns k).place None ≡ Some k)
stands_more columns width slots i k apart lt is table within =
    let same = length-set slots (column_at columns i).place (Some i) in
    elim (cases_lt k i) [
      | inl below ↦
          let old = table.stands k below in
          let other : (column_at columns k).place ≢ (column_at columns i).place = apart.apart k i below lt in
          (rw same old.0, get_or-set_other slots (column_at columns i).place (column_at columns k).place (Some i) None other ∙ old.1)
      | inr above ↦
          let here : k ≡ i = omega (arith, within, above) in
          let inside : (column_at columns i).place < length slots = rw is (apart.within i lt) in
          rw here (rw same inside, get_or-set_same slots (column_at columns i).place (Some i) None inside)
    ]

no_other_more : (columns : List Column) (width : ℕ) (slots : List (Option ℕ)) (i place k : ℕ) → AreApart columns width → i < length columns → length slots ≡ width → AreSlots i columns slots → get_or (set slots (column_at columns i).place (Some i)) place None ≡ Some k → (k < i + 1) × ((column_at columns k).place ≡ place)
no_other_more columns width slots i place k apart lt is table stands =
    elim (cases_eq place (column_at columns i).place) [
      | inl here ↦
          let inside : (column_at columns i).place < length slots = rw is (apart.within i lt) in
          let read = get_or-set_same slots (column_at columns i).place (Some i) None inside in
          let there : get_or (set slots (column_at columns i).place (Some i)) (column_at columns i).place None ≡ Some k = rw here at stands in
          let same : k ≡ i = cc in
          rw same (omega arith, sym here)
      | inr other ↦
          let old = table.no_other place k (sym (get_or-set_other slots (column_at columns i).place place (Some i) None other) ∙ stands) in
          (omega (arith, old.0), old.1)
    ]

pub slots_more : (columns : List Column) (width : ℕ) (slots : List (Option ℕ)) (i : ℕ) → AreApart columns width → i < length columns → length slots ≡ width → AreSlots i columns slots → AreSlots (i + 1) columns (set slots (column_at columns i).place (Some i))
slots_more columns width slots i apart lt is table = record {
  stands = λ k within. stands_more columns width slots i k apart lt is table within;
  no_other = λ place k stands. no_other_more columns width slots i place k apart lt is table stands;
}
