-- The values of a row one by one.
use Rattle.std.proofs.Common.{◌≡◌, ℕ, ◌+◌, ◌≤◌, ◌<◌, List, [], ◌∷◌, ◌++◌, length, take, drop, slice_set, refl, sym, ap, ◌∙◌, arith, append_assoc, append-nil, drop_of_length-le, Result, Ok, Err, ℤ}
use Rattle.std.proofs.lemmas.List.{drop_more, length-take, take_all, take_more_set, length-set}
use Rattle.rec_csv.specs.declared.columns.Column.{Column}
use Rattle.rec_csv.specs.declared.faults.RowFault.{RowFault}
use Rattle.rec_csv.specs.declared.faults.RowFault.TheVariants.{BadLine, BadWidth, BadNumber, OutOfType, OutOfMemory}
use Rattle.rec_csv.specs.Fields.{field_in}
use Rattle.rec_csv.specs.Slots.{column_at, no_column}
use Rattle.rec_csv.specs.Rows.{Leaves, Tells, input_values, input_value, good_values}
use Rattle.rec_csv.proofs.Prepended.{prepended, one_more}

-- the value of column i stands behind those before it
pub values_step : (columns : List Column) (fields : List (List ℕ)) (i : ℕ) (before : List ℤ) (value : ℤ) → i < length columns → input_value (column_at columns i) (field_in fields (column_at columns i).place) ≡ Ok value → prepended before (input_values (drop i columns) fields) ≡ prepended (before ++ value ∷ []) (input_values (drop (i + 1) columns) fields)
unfolding input_values
values_step columns fields i before value lt is = rw (drop_more columns i no_column lt, is) (one_more before value (input_values (drop (i + 1) columns) fields))

-- the fault of column i is that of all
pub values_fault : (columns : List Column) (fields : List (List ℕ)) (i : ℕ) (before : List ℤ) (fault : RowFault) → i < length columns → input_value (column_at columns i) (field_in fields (column_at columns i).place) ≡ Err fault → prepended before (input_values (drop i columns) fields) ≡ Err fault
unfolding input_values
values_fault columns fields i before fault lt is = rw (drop_more columns i no_column lt, is) refl

-- behind the last column stands nothing
pub values_end : (columns : List Column) (fields : List (List ℕ)) (i : ℕ) (values : List ℤ) → length values ≡ length columns → length columns ≤ i → prepended (take i values) (input_values (drop i columns) fields) ≡ Ok values
unfolding input_values
values_end columns fields i values same le =
    let past : length values ≤ i = omega (arith, same, le) in
    rw (drop_of_length-le columns le, append-nil (take i values)) (ap (λ l. Ok l) (take_all i values past))

-- a good value of column i stands behind those before it
pub good_step : (columns : List Column) (fields : List (List ℕ)) (i : ℕ) (before : List ℤ) (value : ℤ) → i < length columns → input_value (column_at columns i) (field_in fields (column_at columns i).place) ≡ Ok value → before ++ good_values (drop i columns) fields ≡ (before ++ value ∷ []) ++ good_values (drop (i + 1) columns) fields
unfolding good_values
good_step columns fields i before value lt is = rw (drop_more columns i no_column lt, is) (sym (append_assoc before (value ∷ []) (good_values (drop (i + 1) columns) fields)))

-- at a fault of column i those before it are all
pub good_fault : (columns : List Column) (fields : List (List ℕ)) (i : ℕ) (before : List ℤ) (fault : RowFault) → i < length columns → input_value (column_at columns i) (field_in fields (column_at columns i).place) ≡ Err fault → before ++ good_values (drop i columns) fields ≡ before
unfolding good_values
good_fault columns fields i before fault lt is = rw (drop_more columns i no_column lt, is) (append-nil before)

-- a fault that is said is told
pub tells : (said : Result (List ℤ) RowFault) (fault : RowFault) → said ≡ Err fault → Tells said fault
tells said BadLine is = is
tells said BadWidth is = is
tells said (BadNumber wire) is = is
tells said (OutOfType wire) is = is
tells said OutOfMemory is = tt

-- whatever the fault is
by_fault : (before values : List ℤ) (fault : RowFault) → take (length before) values ≡ before → Leaves before values fault
by_fault before values BadLine is = tt
by_fault before values BadWidth is = tt
by_fault before values (BadNumber wire) is = is
by_fault before values (OutOfType wire) is = is
by_fault before values OutOfMemory is = tt

-- what stands before place i of the values is left
pub leaves : (before values : List ℤ) (fault : RowFault) (i : ℕ) → before ≡ take i values → i ≤ length values → Leaves before values fault
leaves before values fault i is le =
    let e : length (take i values) ≡ i = omega (arith, length-take i values, le) in
    by_fault before values fault (rw is (ap (λ n. take n values) e))

-- what the values up to place i keep
abbrev pub Kept : List Column → List (List ℕ) → List ℤ → ℕ → Type 0
Kept columns fields values i = (length values ≡ length columns)
    × (input_values columns fields ≡ prepended (take i values) (input_values (drop i columns) fields))
    × (good_values columns fields ≡ take i values ++ good_values (drop i columns) fields)

-- one more value keeps it
pub kept : (columns : List Column) (fields : List (List ℕ)) (values : List ℤ) (i : ℕ) (z : ℤ) → i < length columns → input_value (column_at columns i) (field_in fields (column_at columns i).place) ≡ Ok z → Kept columns fields values i → Kept columns fields (slice_set values i z) (i + 1)
kept columns fields values i z lt is inv =
    let e = take_more_set values i z (omega (arith, lt, inv.0)) in (
      length-set values i z ∙ inv.0,
      inv.1 ∙ values_step columns fields i (take i values) z lt is ∙ ap (λ l. prepended l (input_values (drop (i + 1) columns) fields)) (sym e),
      inv.2 ∙ good_step columns fields i (take i values) z lt is ∙ ap (λ l. l ++ good_values (drop (i + 1) columns) fields) (sym e),
    )
