-- The rows of a recording: the inputs' values.
use Rattle.std.specs.Prelude.{ℕ, ◌≡◌, take, ⊤, List, [], ◌∷◌, length, nat_le, ℤ, Option, Some, None, ok_or, Result, Ok, Err}
use Rattle.text_words.specs.Numbers.{number_of}
use Rattle.net_model.specs.Validity.{kind_holds}
use Rattle.text_words.specs.Steps.{◌>>=◌, demand}
use Rattle.rec_csv.specs.declared.faults.RowFault.{RowFault}
use Rattle.rec_csv.specs.declared.faults.RowFault.TheVariants.{BadLine, BadWidth, BadNumber, OutOfType, OutOfMemory}
use Rattle.rec_csv.specs.declared.columns.Column.{Column}
use Rattle.rec_csv.specs.Fields.{fields_of_line, field_in, trimmed}
use Rattle.rec_csv.specs.Headers.{HeaderData}

-- the value of an input whose field is this one; no input is a position, so no axis is looked at
unfoldable pub input_value : Column → List ℕ → Result ℤ RowFault
input_value column field = do
  value ← ok_or (number_of (trimmed field)) (BadNumber column.wire)
  _ ← demand (kind_holds [] column.kind value) (OutOfType column.wire)
  Ok value

-- the values of inputs, in order
unfoldable pub input_values : List Column → List (List ℕ) → Result (List ℤ) RowFault
input_values [] fields = Ok []
input_values (column ∷ columns) fields = do
  value ← input_value column (field_in fields column.place)
  values ← input_values columns fields
  Ok (value ∷ values)

-- the values that a row gives
unfoldable pub row_of : HeaderData → List ℕ → Result (List ℤ) RowFault
row_of header line = do
  fields ← ok_or (fields_of_line line) BadLine
  _ ← demand (nat_le header.width (length fields)) BadWidth
  input_values header.columns fields

-- a value and those after it, up to a fault
abbrev pub before_fault : Result ℤ RowFault → List ℤ → List ℤ
before_fault (Ok value) values = value ∷ values
before_fault (Err fault) values = []

-- the values of the inputs before the first that is faulty
unfoldable pub good_values : List Column → List (List ℕ) → List ℤ
good_values [] fields = []
good_values (column ∷ columns) fields = before_fault (input_value column (field_in fields column.place)) (good_values columns fields)

-- the fields of a line, none where it has no fields
abbrev pub fields_or_none : Option (List (List ℕ)) → List (List ℕ)
fields_or_none None = []
fields_or_none (Some fields) = fields

-- the values of the inputs before the one that a row's fault names
abbrev pub values_before : HeaderData → List ℕ → List ℤ
values_before header line = good_values header.columns (fields_or_none (fields_of_line line))

-- a row's fault is the one that the line has, but for want of memory
abbrev pub Tells : Result (List ℤ) RowFault → RowFault → Type 0
Tells said BadLine = said ≡ Err BadLine
Tells said BadWidth = said ≡ Err BadWidth
Tells said (BadNumber wire) = said ≡ Err (BadNumber wire)
Tells said (OutOfType wire) = said ≡ Err (OutOfType wire)
Tells said OutOfMemory = ⊤

-- after the fault of an input these values stand first
abbrev pub Leaves : List ℤ → List ℤ → RowFault → Type 0
Leaves before values BadLine = ⊤
Leaves before values BadWidth = ⊤
Leaves before values (BadNumber wire) = take (length before) values ≡ before
Leaves before values (OutOfType wire) = take (length before) values ≡ before
Leaves before values OutOfMemory = ⊤
