-- The lines that are said of recordings.
use Rattle.std.specs.Prelude.{ℕ, List, [], ◌∷◌, ◌++◌, codes, decimal}
use Rattle.net_model.specs.declared.wires.WireNo.{WireNo}
use Rattle.net_model.specs.declared.wires.Wire.{Wire}
use Rattle.net_model.specs.Wires.{wire_at}
use Rattle.rec_csv.specs.declared.faults.HeadFault.{HeadFault}
use Rattle.rec_csv.specs.declared.faults.HeadFault.TheVariants as head
use Rattle.rec_csv.specs.declared.faults.RowFault.{RowFault}
use Rattle.rec_csv.specs.declared.faults.RowFault.TheVariants as row
use Rattle.rec_csv.specs.Recordings.{RecordingFault, no_header, bad_header, bad_row}
use Rattle.bench_core.specs.Outcomes.{Refusal}

-- the name of a wire
abbrev pub name_of : List Wire → WireNo → List ℕ
name_of wires number = (wire_at wires number.0).name

-- why a header is refused; memory is no matter of a recording
abbrev pub head_reason : List Wire → HeadFault → List ℕ
head_reason wires head.BadLine = codes "bad line"
head_reason wires (head.Missing number) = codes "missing " ++ name_of wires number
head_reason wires (head.Twice number) = codes "twice " ++ name_of wires number
head_reason wires head.OutOfMemory = []

-- why a row is refused
abbrev pub row_reason : List Wire → RowFault → List ℕ
row_reason wires row.BadLine = codes "bad line"
row_reason wires row.BadWidth = codes "bad width"
row_reason wires (row.BadNumber number) = name_of wires number ++ codes ": not a number"
row_reason wires (row.OutOfType number) = name_of wires number ++ codes ": out of type"
row_reason wires row.OutOfMemory = []

-- the line of a refused row; row 0 is the header
abbrev pub row_line : ℕ → List ℕ → List ℕ
row_line number reason = codes "row " ++ decimal number ++ codes ": " ++ reason ++ 10 ∷ []

-- the refusal of a row, for a reason
abbrev pub row_refused : ℕ → List ℕ → Refusal
row_refused number reason = record { status = 4; text = row_line number reason }

-- the refusal of a recording
unfoldable pub recording_refused : List Wire → RecordingFault → Refusal
recording_refused wires no_header = row_refused 0 (codes "no header")
recording_refused wires (bad_header fault) = row_refused 0 (head_reason wires fault)
recording_refused wires (bad_row number fault) = row_refused number (row_reason wires fault)
