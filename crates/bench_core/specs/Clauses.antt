-- The clauses of the call: how far it keeps to its answer, whatever the outside and memory do.
use Rattle.std.specs.Prelude.{◌≡◌, ◌≢◌, ℕ, List, [], ◌⊎◌, Contains, Option, None}
use Rattle.fx_io.specs.Causes.{Rose}
use Rattle.fx_io.specs.Outside.{bytes_of}
use Rattle.bench_core.specs.Calls.{SinkCall, ShelfCall, Writes, WritesFront, SaysAll}
use Rattle.bench_core.specs.Outcomes.{Outcome}
use Rattle.bench_core.specs.RefusalTexts.{usage, cannot_read, cannot_write, out_of_memory}
use Rattle.bench_core.specs.Requests.{Request, files_asked}
use Rattle.bench_core.specs.CheckAnswer.{accepted_line}
use Rattle.bench_core.specs.Headline.{IsCertified, IsRunOf}

-- where the status isn't one of 2, 7 and 8, to which each exact cause yields: the status is the answer's, all that it
-- prints was written, and all that it says was said
abbrev pub KeepsToAnswer : Outcome → SinkCall → SinkCall → ℕ → Type 0
KeepsToAnswer o out err status =
    status ≢ 2 → status ≢ 7 → status ≢ 8 → (status ≡ o.status) × Writes out o.out × SaysAll o.err err

-- completeness: where no count of faults rose, the status is the answer's, or memory ran out
abbrev pub IsSteady : Outcome → ShelfCall → SinkCall → ℕ → Type 0
IsSteady o shelf out status =
    ¬ Rose shelf.before shelf.now → ¬ Rose out.before out.now → (status ≡ o.status) ⊎ (status ≡ 8)

-- status 2 comes only where the shelf's count rose and a file of the command failed, and says so
abbrev pub HasReadText : Option Request → ShelfCall → SinkCall → Type 0
HasReadText request shelf err =
    Rose shelf.before shelf.now × Contains (files_asked request) shelf.failed × SaysAll (cannot_read shelf.failed) err

-- status 7 comes only where the sink's count rose, and says so
abbrev pub HasWriteText : SinkCall → SinkCall → Type 0
HasWriteText out err = Rose out.before out.now × SaysAll cannot_write err

-- the text of a file that the answer reaches and that failed, or of the sink that failed: a front of it was said
abbrev pub SaysFrontOfFault : Outcome → ShelfCall → SinkCall → SinkCall → Type 0
SaysFrontOfFault o shelf out err =
    (Rose shelf.before shelf.now × Contains o.reads shelf.failed × WritesFront err (cannot_read shelf.failed))
    ⊎ (Rose out.before out.now × WritesFront err cannot_write)

-- at want of memory a front of a text was said whose cause is there: that of memory itself, of the answer, of a file that
-- the answer reaches and that failed, or of the sink that failed
abbrev pub SaysFront : Outcome → ShelfCall → SinkCall → SinkCall → Type 0
SaysFront o shelf out err = WritesFront err out_of_memory ⊎ (WritesFront err o.err ⊎ SaysFrontOfFault o shelf out err)

-- status 1 comes only where the words are outside the grammar; nothing is printed, and the usage is said
abbrev pub HasUsageText : Option Request → SinkCall → SinkCall → Type 0
HasUsageText request out err = (request ≡ None) × Writes out [] × SaysAll usage.text err

-- `accepted` was printed, and the certificate holds for the network
abbrev pub Certifies : List (List ℕ × List ℕ) → List ℕ → List ℕ → SinkCall → Type 0
Certifies files net cert out = Writes out accepted_line × IsCertified (bytes_of files net) (bytes_of files cert)

-- a text was printed that is the printed run of the recording
abbrev pub Runs : List (List ℕ × List ℕ) → List ℕ → List ℕ → SinkCall → Type 0
Runs files net rec out = (text : List ℕ) × Writes out text × IsRunOf (bytes_of files net) (bytes_of files rec) text
