-- What `run NET REC` does, in the order of its refusals.
use Rattle.std.specs.Prelude.{ℕ, Bool, true, false, List, [], ℤ, Option, Some, None}
use Rattle.net_model.specs.Wires.{NetData}
use Rattle.net_meaning.specs.Blocks.{machine}
use Rattle.net_meaning.specs.Runs.{table}
use Rattle.rec_csv.specs.Recordings.{Recording, RecordingFault, recording_of}
use Rattle.bench_core.specs.Outcomes.{Outcome, done, refused, printed}
use Rattle.bench_core.specs.RecordingTexts.{recording_refused}
use Rattle.bench_core.specs.FilesRead.{over_two_files}
use Rattle.bench_core.specs.PrintedRuns.{run_text}

-- the most bytes of a recording
abbrev pub recording_limit : ℕ
recording_limit = 67108864

-- what is printed of a recording's rows; without a header nothing is
abbrev pub run_printed : NetData → Bool → List (List ℤ) → List ℕ
run_printed net false rows = []
run_printed net true rows = run_text net (table machine net rows)

-- how a recording ends: read out, or refused
abbrev pub recording_end : NetData → Option RecordingFault → Outcome
recording_end net None = done
recording_end net (Some fault) = refused (recording_refused net.wires fault)

-- the steps of the command, the last first: what is printed of a recording, and how it ends
unfoldable pub run_recording : NetData → Recording → Outcome
run_recording net r = printed (run_printed net r.is_headed r.rows) (recording_end net r.fault)

-- the recording of a file's bytes is run
unfoldable pub run_bytes : NetData → List ℕ → Outcome
run_bytes net bytes = run_recording net (recording_of net.wires bytes)

-- the files of the network and of the recording are read, and then the recording is run
unfoldable pub run_answer : List (List ℕ × List ℕ) → List ℕ → List ℕ → Outcome
run_answer files net rec = over_two_files files net rec recording_limit run_bytes
