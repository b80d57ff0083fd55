-- A whole recording: which rows it gives for a network, and what ends it. Its lines are cut like those of a text: a
-- byte-order mark at its start is dropped, a line ends with a line feed, and one carriage return before that is dropped.
use Rattle.std.specs.Prelude.{ℕ, ◌+◌, ℤ, Bool, true, false, List, [], ◌∷◌, length, Option, Some, None, Result, Ok, Err, if◌then◌else◌}
use Rattle.text_words.specs.Lines.{lines_of}
use Rattle.net_model.specs.declared.wires.Wire.{Wire}
use Rattle.rec_csv.specs.declared.faults.HeadFault.{HeadFault}
use Rattle.rec_csv.specs.declared.faults.RowFault.{RowFault}
use Rattle.rec_csv.specs.Fields.{is_blank}
use Rattle.rec_csv.specs.Headers.{HeaderData, header_of}
use Rattle.rec_csv.specs.Rows.{row_of}

-- what refuses a recording: no line is there to be its header, its header is refused, or a row is, which are numbered
-- from 1
pub data RecordingFault : Type 0 where
  no_header : RecordingFault
  bad_header : HeadFault → RecordingFault
  bad_row : ℕ → RowFault → RecordingFault

-- the header among lines, which is the first that isn't blank, and the lines below it
pub record Headed : Type 0 where
  pub header : HeaderData
  pub below : List (List ℕ)

-- a header with the lines below it
abbrev pub headed : List (List ℕ) → Result HeaderData HeadFault → Result Headed RecordingFault
headed lines (Ok header) = Ok (record { header = header; below = lines })
headed lines (Err fault) = Err (bad_header fault)

-- the header of lines
unfoldable pub head_of : List Wire → List (List ℕ) → Result Headed RecordingFault
head_of wires [] = Err no_header
head_of wires (line ∷ lines) = if is_blank line then head_of wires lines else headed lines (header_of wires line)

-- the rows before the first that is refused, the newest first, and that row's fault
pub record RowsRead : Type 0 where
  pub rows : List (List ℤ)
  pub fault : Option RecordingFault

-- a row's values go on to the rows below it, and its fault ends them
abbrev pub row_or_end : List (List ℤ) → Result (List ℤ) RowFault → (List ℤ → RowsRead) → RowsRead
row_or_end rows (Ok values) below = below values
row_or_end rows (Err fault) below = record { rows = rows; fault = Some (bad_row (length rows + 1) fault) }

-- the rows of the lines that are left, below these rows; blank lines are skipped, and not counted
unfoldable pub rows_below : HeaderData → List (List ℤ) → List (List ℕ) → RowsRead
rows_below header rows [] = record { rows = rows; fault = None }
rows_below header rows (line ∷ lines) =
    if is_blank line then rows_below header rows lines
    else row_or_end rows (row_of header line) (λ values. rows_below header (values ∷ rows) lines)

-- whether a header is accepted, the rows, the newest first, and what refuses the recording, if anything does
pub record Recording : Type 0 where
  pub is_headed : Bool
  pub rows : List (List ℤ)
  pub fault : Option RecordingFault

-- the recording of a header and the lines below it
abbrev pub read_below : Result Headed RecordingFault → Recording
read_below (Err fault) = record { is_headed = false; rows = []; fault = Some fault }
read_below (Ok h) = let r = rows_below h.header [] h.below in record { is_headed = true; rows = r.rows; fault = r.fault }

-- what a recording's bytes say for a network of these wires
unfoldable pub recording_of : List Wire → List ℕ → Recording
recording_of wires bytes = read_below (head_of wires (lines_of bytes))
