-- The steps of a run, its header and one row after another: for the clauses of private functions alone.
use Rattle.std.specs.Prelude.{◌≡◌, ℕ, ◌++◌, ℤ, List, [], ◌∷◌, ⊤, Result, Ok, Err}
use Rattle.fx_io.specs.Causes.{Rose}
use Rattle.net_model.specs.declared.wires.Wire.{Wire}
use Rattle.net_model.specs.Wires.{NetData}
use Rattle.net_meaning.specs.Blocks.{machine}
use Rattle.net_meaning.specs.Runs.{table}
use Rattle.net_eval.specs.After.{PlanData, IsAfter, outputs_of}
use Rattle.rec_csv.specs.declared.faults.RowFault.{RowFault}
use Rattle.rec_csv.specs.declared.faults.RowFault.TheVariants.{BadLine, BadWidth, BadNumber, OutOfType, OutOfMemory as RowOutOfMemory}
use Rattle.rec_csv.specs.Headers.{HeaderData, header_of}
use Rattle.rec_csv.specs.Rows.{row_of}
use Rattle.rec_csv.specs.Recordings.{Headed, RecordingFault, head_of, rows_below}
use Rattle.bench_core.specs.declared.endings.Ending.{Ending}
use Rattle.bench_core.specs.declared.endings.Ending.TheVariants.{Usage, Refused, CannotRead, CannotWrite, OutOfMemory}
use Rattle.bench_core.specs.Calls.{SinkCall, Writes, WritesFront}
use Rattle.bench_core.specs.Outcomes.{Outcome, Refusal, printed}
use Rattle.bench_core.specs.PrintedRuns.{names_line, values_line, rows_text}
use Rattle.bench_core.specs.RecordingTexts.{recording_refused}
use Rattle.bench_core.specs.RunAnswer.{recording_end}

-- a recording's fault refuses the step
abbrev pub refusing : {A : Type 0} → List Wire → Result A RecordingFault → Result A Refusal
refusing wires (Ok x) = Ok x
refusing wires (Err fault) = Err (recording_refused wires fault)

-- the header of a recording's lines, as a step
unfoldable pub head_step : NetData → List (List ℕ) → Result Headed Refusal
head_step net lines = refusing net.wires (head_of net.wires lines)

-- what the lines that are left answer, below a header and these rows: the lines of all rows, and how the recording ends
unfoldable pub rows_answer : NetData → HeaderData → List (List ℤ) → List (List ℕ) → Outcome
rows_answer net header rows lines =
    let r = rows_below header rows lines in
    printed (rows_text net.outs (table machine net r.rows)) (recording_end net r.fault)

-- what a header and the lines below it answer
unfoldable pub headed_answer : NetData → Headed → Outcome
headed_answer net h = printed (names_line net) (rows_answer net h.header [] h.below)

-- the header is that of a line, for a network of these wires
abbrev pub IsHeaderOf : List Wire → HeaderData → Type 0
IsHeaderOf wires header = (line : List ℕ) × (header_of wires line ≡ Ok header)

-- the line is one more row, on which the plan was evaluated, and these are the outputs
abbrev pub Evaluates : HeaderData → List ℕ → PlanData → PlanData → List ℤ → Type 0
Evaluates header line old new outputs =
    (rows : List (List ℤ)) → IsAfter old.net rows old.kept →
    (values : List ℤ) × (row_of header line ≡ Ok values) × IsAfter old.net (values ∷ rows) new.kept
    × (outputs ≡ outputs_of old.net (values ∷ rows))

-- it was, and the line of the outputs was appended to the text
abbrev pub EvaluatesRow : HeaderData → List ℕ → PlanData → PlanData → List ℕ → List ℕ → Type 0
EvaluatesRow header line old new before now =
    (rows : List (List ℤ)) → IsAfter old.net rows old.kept →
    (values : List ℤ) × (row_of header line ≡ Ok values) × IsAfter old.net (values ∷ rows) new.kept
    × (now ≡ before ++ values_line (outputs_of old.net (values ∷ rows)))

-- a refused row ended the run: what waited was written before it, or printing that stopped or memory ran out
abbrev pub StopsAtRow : List ℕ → Refusal → SinkCall → Ending → Type 0
StopsAtRow waiting r out Usage = ⊥
StopsAtRow waiting r out (Refused n) = (n.status ≡ r.status) × (n.text.items ≡ r.text) × Writes out waiting
StopsAtRow waiting r out (CannotRead text) = ⊥
StopsAtRow waiting r out CannotWrite = Rose out.before out.now × WritesFront out waiting
StopsAtRow waiting r out OutOfMemory = WritesFront out waiting

-- whatever the fault of a row, but for want of memory, the text is as before
abbrev pub KeepsText : List ℕ → List ℕ → RowFault → Type 0
KeepsText before now BadLine = now ≡ before
KeepsText before now BadWidth = now ≡ before
KeepsText before now (BadNumber wire) = now ≡ before
KeepsText before now (OutOfType wire) = now ≡ before
KeepsText before now RowOutOfMemory = ⊤
