-- The header of a recording: where each input of a network stands. `are_wires` is for a private function's clause.
use Rattle.std.specs.Prelude.{ℕ, ◌≡◌, ⊤, ◌+◌, List, [], ◌∷◌, ◌<◌, length, bytes_eq, ok_or, Result, Ok, Err, if◌then◌else◌}
use Rattle.net_model.specs.declared.wires.WireNo.{WireNo}
use Rattle.net_model.specs.declared.wires.Wire.{Wire}
use Rattle.net_model.specs.Wires.{wire_at, inputs_of}
use Rattle.text_words.specs.Steps.{◌>>=◌}
use Rattle.rec_csv.specs.declared.faults.HeadFault.{HeadFault}
use Rattle.rec_csv.specs.declared.faults.HeadFault.TheVariants.{BadLine, Missing, Twice, OutOfMemory}
use Rattle.rec_csv.specs.declared.columns.Column.{Column}
use Rattle.rec_csv.specs.Fields.{fields_of_line, trimmed}

-- what a header says: how many fields it has, and of each input its column, its wire and its kind
pub record HeaderData : Type 0 where
  pub width : ℕ
  pub columns : List Column

-- the columns that are named so, of fields that are numbered from i
unfoldable pub places_from : ℕ → List ℕ → List (List ℕ) → List ℕ
places_from i name [] = []
places_from i name (field ∷ fields) =
    if bytes_eq (trimmed field) name then i ∷ places_from (i + 1) name fields else places_from (i + 1) name fields

-- the only one of the columns that are named as an input
abbrev pub only_place : WireNo → List ℕ → Result ℕ HeadFault
only_place wire [] = Err (Missing wire)
only_place wire (place ∷ []) = Ok place
only_place wire (place ∷ other ∷ more) = Err (Twice wire)

-- the column of an input
unfoldable pub column_of : List (List ℕ) → WireNo → Wire → Result Column HeadFault
column_of fields number wire = do
  place ← only_place number (places_from 0 wire.name fields)
  Ok (record { place = place; wire = number; kind = wire.kind })

-- the columns of inputs, in order
unfoldable pub columns_of : List (List ℕ) → List Wire → List WireNo → Result (List Column) HeadFault
columns_of fields wires [] = Ok []
columns_of fields wires (number ∷ numbers) = do
  column ← column_of fields number (wire_at wires number.0)
  columns ← columns_of fields wires numbers
  Ok (column ∷ columns)

-- each of the numbers is that of a wire
unfoldable pub are_wires : List Wire → List WireNo → Type 0
are_wires wires [] = ⊤
are_wires wires (number ∷ numbers) = (number.0 < length wires) × are_wires wires numbers

-- the header that a line is for a network of these wires
unfoldable pub header_of : List Wire → List ℕ → Result HeaderData HeadFault
header_of wires line = do
  fields ← ok_or (fields_of_line line) BadLine
  columns ← columns_of fields wires (inputs_of wires)
  Ok (record { width = length fields; columns = columns })

-- a fault is the one that is said, but for want of memory
abbrev pub TellsHead : {A : Type 0} → Result A HeadFault → HeadFault → Type 0
TellsHead said BadLine = said ≡ Err BadLine
TellsHead said (Missing wire) = said ≡ Err (Missing wire)
TellsHead said (Twice wire) = said ≡ Err (Twice wire)
TellsHead said OutOfMemory = ⊤
