-- Fields by their columns, and the columns of inputs one by one.
use Rattle.std.proofs.Common.{◌≡◌, ℕ, ◌+◌, ◌≤◌, ◌<◌, zero, suc, true, false, List, [], ◌∷◌, ◌++◌, length, drop, get_or, refl, arith, append-nil, length-append, drop_of_length-le, Option, Some, None, Result, Ok, Err}
use Rattle.std.specs.Prelude.{bytes_eq}
use Rattle.std.proofs.lemmas.List.{drop_more}
use Rattle.csv.specs.Records.{field_at}
use Rattle.net_model.specs.declared.wires.WireNo.{WireNo}
use Rattle.net_model.specs.declared.wires.Item.{Item}
use Rattle.net_model.specs.declared.wires.Item.TheVariants.{Input, Const, Delay, Block as OfBlock}
use Rattle.net_model.specs.declared.wires.Wire.{Wire}
use Rattle.net_model.specs.Wires.{wire_at, with_input, inputs_from, inputs_of}
use Rattle.rec_csv.specs.declared.columns.Column.{Column}
use Rattle.rec_csv.specs.declared.faults.HeadFault.{HeadFault}
use Rattle.rec_csv.specs.declared.faults.HeadFault.TheVariants.{BadLine, Missing, Twice, OutOfMemory}
use Rattle.text_words.specs.Steps.{◌>>=◌}
use Rattle.rec_csv.specs.Fields.{trimmed}
use Rattle.rec_csv.specs.Headers.{HeaderData, TellsHead, places_from, are_wires, columns_of, column_of}
use Rattle.rec_csv.proofs.Prepended.{prepended, one_more}

-- the bytes that are there
abbrev pub bytes_or_none : Option (List ℕ) → List ℕ
bytes_or_none None = []
bytes_or_none (Some bytes) = bytes

-- a field by its column
pub field_in_at : (fields : List (List ℕ)) (column : ℕ) → get_or fields column [] ≡ bytes_or_none (field_at fields column)
unfolding field_at
field_in_at [] zero = refl
field_in_at [] (suc column) = refl
field_in_at (field ∷ fields) zero = refl
field_in_at (field ∷ fields) (suc column) = field_in_at fields column

-- ---- the columns of a name

-- column i is the first of those from i on that are named so
pub places_yes : (name : List ℕ) (fields : List (List ℕ)) (i : ℕ) → i < length fields → bytes_eq (trimmed (get_or fields i [])) name ≡ true → places_from i name (drop i fields) ≡ i ∷ places_from (i + 1) name (drop (i + 1) fields)
unfolding places_from
places_yes name fields i lt is = rw (drop_more fields i [] lt, is) refl

-- column i isn't
pub places_no : (name : List ℕ) (fields : List (List ℕ)) (i : ℕ) → i < length fields → bytes_eq (trimmed (get_or fields i [])) name ≡ false → places_from i name (drop i fields) ≡ places_from (i + 1) name (drop (i + 1) fields)
unfolding places_from
places_no name fields i lt is = rw (drop_more fields i [] lt, is) refl

-- there is none behind the last
pub places_end : (name : List ℕ) (fields : List (List ℕ)) (i : ℕ) → length fields ≤ i → places_from i name (drop i fields) ≡ []
unfolding places_from
places_end name fields i le = rw (drop_of_length-le fields le) refl

-- ---- the inputs

-- one number more
with_below : (item : Item) (i : ℕ) (all : List Wire) (rest : List WireNo) → i < length all → are_wires all rest → are_wires all (with_input item i rest)
unfolding are_wires
with_below (Input lo hi) i all rest lt h = (lt, h)
with_below (Const value) i all rest lt h = h
with_below (Delay init source) i all rest lt h = h
with_below (OfBlock b) i all rest lt h = h

-- the inputs of wires from number i are among the first k wires
inputs_below : (wires : List Wire) (i : ℕ) (all : List Wire) → i + length wires ≤ length all → are_wires all (inputs_from i wires)
unfolding are_wires
inputs_below [] i all le = tt
inputs_below (wire ∷ wires) i all le = with_below wire.item i all (inputs_from (i + 1) wires) (omega (arith, le)) (inputs_below wires (i + 1) all (omega (arith, le)))

-- the inputs are wires
pub inputs_are_wires : (wires : List Wire) → are_wires wires (inputs_of wires)
inputs_are_wires wires = inputs_below wires 0 wires (omega arith)

-- ---- one column more

-- the input that is read where there is none
abbrev pub none : WireNo
none = record { 0 = 0 }

-- the column of input i stands behind those before it
pub columns_step : (fields : List (List ℕ)) (wires : List Wire) (inputs : List WireNo) (i : ℕ) (before : List Column) (column : Column) → i < length inputs → column_of fields (get_or inputs i none) (wire_at wires (get_or inputs i none).0) ≡ Ok column → prepended before (columns_of fields wires (drop i inputs)) ≡ prepended (before ++ column ∷ []) (columns_of fields wires (drop (i + 1) inputs))
unfolding columns_of
columns_step fields wires inputs i before column lt is = rw (drop_more inputs i none lt, is) (one_more before column (columns_of fields wires (drop (i + 1) inputs)))

pub one_longer : (before after : List Column) (column : Column) (i : ℕ) → after ≡ before ++ column ∷ [] → length before ≡ i → length after ≡ i + 1
one_longer before after column i e h = rw e (omega (arith, length-append before (column ∷ []), h))

-- the fault of input i is that of all
pub columns_fault : (fields : List (List ℕ)) (wires : List Wire) (inputs : List WireNo) (i : ℕ) (before : List Column) (fault : HeadFault) → i < length inputs → column_of fields (get_or inputs i none) (wire_at wires (get_or inputs i none).0) ≡ Err fault → prepended before (columns_of fields wires (drop i inputs)) ≡ Err fault
unfolding columns_of
columns_fault fields wires inputs i before fault lt is = rw (drop_more inputs i none lt, is) refl

-- behind the last input stands nothing
pub columns_end : (fields : List (List ℕ)) (wires : List Wire) (inputs : List WireNo) (i : ℕ) (before : List Column) → length inputs ≤ i → prepended before (columns_of fields wires (drop i inputs)) ≡ Ok before
unfolding columns_of
columns_end fields wires inputs i before le = rw (drop_of_length-le inputs le, append-nil before) refl

-- input i is a wire
pub input_is_wire : (wires : List Wire) (inputs : List WireNo) (i : ℕ) → are_wires wires inputs → i < length inputs → (get_or inputs i none).0 < length wires
unfolding are_wires
input_is_wire wires [] i h lt = absurd (omega (arith, lt))
input_is_wire wires (number ∷ numbers) zero h lt = h.0
input_is_wire wires (number ∷ numbers) (suc i) h lt = input_is_wire wires numbers i h.1 (omega (arith, lt))

-- a fault that is said is told
pub tells_columns : (said : Result (List Column) HeadFault) (fault : HeadFault) → said ≡ Err fault → TellsHead said fault
tells_columns said BadLine is = is
tells_columns said (Missing wire) is = is
tells_columns said (Twice wire) is = is
tells_columns said OutOfMemory is = tt

-- the fault of the columns is that of the header
pub tells_header : (said : Result (List Column) HeadFault) (width : ℕ) (fault : HeadFault) → TellsHead said fault → TellsHead {A = HeaderData} (said >>= (λ columns. Ok (record { width = width; columns = columns }))) fault
tells_header said width BadLine is = rw is refl
tells_header said width (Missing wire) is = rw is refl
tells_header said width (Twice wire) is = rw is refl
tells_header said width OutOfMemory is = tt
