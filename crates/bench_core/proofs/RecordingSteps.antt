-- The definition of a recording, line by line, and what its rows answer.
use Rattle.std.proofs.Common.{◌≡◌, ℕ, ◌+◌, Bool, true, false, List, [], ◌∷◌, ◌++◌, length, refl, sym, ap, ◌∙◌, subst, append_assoc, ℤ, Result, Ok, Err}
use Rattle.text_words.specs.Lines.{lines_of}
use Rattle.net_model.specs.declared.wires.Wire.{Wire}
use Rattle.net_model.specs.Wires.{NetData}
use Rattle.net_meaning.specs.Blocks.{machine}
use Rattle.net_meaning.specs.Runs.{table}
use Rattle.net_eval.specs.After.{outputs_of}
use Rattle.rec_csv.specs.declared.faults.HeadFault.{HeadFault}
use Rattle.rec_csv.specs.declared.faults.HeadFault.TheVariants as head
use Rattle.rec_csv.specs.declared.faults.RowFault.{RowFault}
use Rattle.rec_csv.specs.Fields.{is_blank}
use Rattle.rec_csv.specs.Headers.{HeaderData, TellsHead, header_of}
use Rattle.rec_csv.specs.Rows.{row_of}
use Rattle.rec_csv.specs.Recordings.{Headed, RecordingFault, no_header, bad_header, bad_row, head_of, headed, read_below, recording_of, rows_below}
use Rattle.bench_core.specs.declared.endings.Ending.{Ending}
use Rattle.bench_core.specs.declared.endings.Ending.TheVariants.{OutOfMemory}
use Rattle.bench_core.specs.Outcomes.{Outcome, done, printed, refused, unless_refused}
use Rattle.bench_core.specs.HowItEnds.{RefusesWith, StopsInside}
use Rattle.bench_core.specs.PrintedRuns.{rows_text, names_line, values_line}
use Rattle.bench_core.specs.RecordingTexts.{recording_refused}
use Rattle.bench_core.specs.RunAnswer.{run_bytes, run_recording}
use Rattle.bench_core.specs.RunSteps.{head_step, headed_answer, refusing, rows_answer}
use Rattle.bench_core.proofs.StepLaws.{stops_at_refusal}

-- ---- the header

pub head_blank : (wires : List Wire) (line : List ℕ) (lines : List (List ℕ)) → is_blank line ≡ true → head_of wires (line ∷ lines) ≡ head_of wires lines
unfolding head_of
head_blank wires line lines blank = rw blank

head_here : (wires : List Wire) (line : List ℕ) (lines : List (List ℕ)) → is_blank line ≡ false → head_of wires (line ∷ lines) ≡ headed lines (header_of wires line)
unfolding head_of
head_here wires line lines full = rw full

head_none : (wires : List Wire) → head_of wires [] ≡ Err no_header
unfolding head_of
head_none wires = refl

-- the first line that isn't blank is a header
pub header_made : (net : NetData) (all lines : List (List ℕ)) (line : List ℕ) (header : HeaderData) → head_of net.wires all ≡ head_of net.wires (line ∷ lines) → is_blank line ≡ false → header_of net.wires line ≡ Ok header → head_step net all ≡ Ok (record { header = header; below = lines })
unfolding head_step
header_made net all lines line header same full is =
    ap (refusing net.wires) (same ∙ head_here net.wires line lines full ∙ ap (headed lines) is)

-- it is none
head_refused : (net : NetData) (all lines : List (List ℕ)) (line : List ℕ) (fault : HeadFault) → head_of net.wires all ≡ head_of net.wires (line ∷ lines) → is_blank line ≡ false → header_of net.wires line ≡ Err fault → head_step net all ≡ Err (recording_refused net.wires (bad_header fault))
unfolding head_step
head_refused net all lines line fault same full is =
    ap (refusing net.wires) (same ∙ head_here net.wires line lines full ∙ ap (headed lines) is)

pub header_stops : (net : NetData) (all lines : List (List ℕ)) (line : List ℕ) (fault : HeadFault) (e : Ending) → head_of net.wires all ≡ head_of net.wires (line ∷ lines) → is_blank line ≡ false → TellsHead (header_of net.wires line) fault → RefusesWith (recording_refused net.wires (bad_header fault)) e → (fault ≡ head.OutOfMemory → e ≡ OutOfMemory) → StopsInside (head_step net all) e
header_stops net all lines line head.BadLine e same full tells is memory =
    stops_at_refusal (head_step net all) _ e (head_refused net all lines line head.BadLine same full tells) is
header_stops net all lines line (head.Missing wire) e same full tells is memory =
    stops_at_refusal (head_step net all) _ e (head_refused net all lines line (head.Missing wire) same full tells) is
header_stops net all lines line (head.Twice wire) e same full tells is memory =
    stops_at_refusal (head_step net all) _ e (head_refused net all lines line (head.Twice wire) same full tells) is
header_stops net all lines line head.OutOfMemory e same full tells is memory =
    subst (StopsInside (head_step net all)) (sym (memory refl)) tt

-- there is no line
none_refused : (net : NetData) (all : List (List ℕ)) → head_of net.wires all ≡ head_of net.wires [] → head_step net all ≡ Err (recording_refused net.wires no_header)
unfolding head_step
none_refused net all same = ap (refusing net.wires) (same ∙ head_none net.wires)

pub empty_stops : (net : NetData) (all : List (List ℕ)) (e : Ending) → head_of net.wires all ≡ head_of net.wires [] → RefusesWith (recording_refused net.wires no_header) e → StopsInside (head_step net all) e
empty_stops net all e same is = stops_at_refusal (head_step net all) _ e (none_refused net all same) is

-- ---- the whole recording, as its header and then its rows

printed_twice : (front back : List ℕ) (o : Outcome) → printed (front ++ back) o ≡ printed front (printed back o)
printed_twice front back o = ap (λ l. record { status = o.status; out = l; err = o.err; reads = o.reads }) (append_assoc front back o.out)

run_from_head : (net : NetData) (h : Result Headed RecordingFault) → run_recording net (read_below h) ≡ unless_refused (refusing net.wires h) (headed_answer net)
unfolding run_recording headed_answer rows_answer
run_from_head net (Err fault) = refl
run_from_head net (Ok h) = printed_twice (names_line net) _ _

pub run_by_head : (net : NetData) (bytes : List ℕ) → run_bytes net bytes ≡ unless_refused (head_step net (lines_of bytes)) (headed_answer net)
unfolding run_bytes recording_of head_step
run_by_head net bytes = run_from_head net (head_of net.wires (lines_of bytes))

-- ---- the rows

-- the lines of these rows
abbrev pub text_of : NetData → List (List ℤ) → List ℕ
text_of net rows = rows_text net.outs (table machine net rows)

pub text_none : (net : NetData) → text_of net [] ≡ []
unfolding rows_text table
text_none net = refl

pub text_step : (net : NetData) (rows : List (List ℤ)) (values : List ℤ) → text_of net (values ∷ rows) ≡ text_of net rows ++ values_line (outputs_of net (values ∷ rows))
unfolding rows_text table outputs_of
text_step net rows values = refl

pub rows_end : (net : NetData) (header : HeaderData) (rows : List (List ℤ)) → rows_answer net header rows [] ≡ printed (text_of net rows) done
unfolding rows_answer rows_below
rows_end net header rows = refl

pub rows_blank : (net : NetData) (header : HeaderData) (rows : List (List ℤ)) (line : List ℕ) (lines : List (List ℕ)) → is_blank line ≡ true → rows_answer net header rows (line ∷ lines) ≡ rows_answer net header rows lines
unfolding rows_answer rows_below
rows_blank net header rows line lines blank = rw blank

pub rows_step : (net : NetData) (header : HeaderData) (rows : List (List ℤ)) (line : List ℕ) (lines : List (List ℕ)) (values : List ℤ) → is_blank line ≡ false → row_of header line ≡ Ok values → rows_answer net header rows (line ∷ lines) ≡ rows_answer net header (values ∷ rows) lines
unfolding rows_answer rows_below
rows_step net header rows line lines values full is = rw (full, is)

pub rows_refused : (net : NetData) (header : HeaderData) (rows : List (List ℤ)) (line : List ℕ) (lines : List (List ℕ)) (fault : RowFault) → is_blank line ≡ false → row_of header line ≡ Err fault → rows_answer net header rows (line ∷ lines) ≡ printed (text_of net rows) (refused (recording_refused net.wires (bad_row (length rows + 1) fault)))
unfolding rows_answer rows_below
rows_refused net header rows line lines fault full is = rw (full, is)

-- whatever comes, the text begins with the lines of the rows so far
abbrev pub BeginsWith : List ℕ → List ℕ → Type 0
BeginsWith whole front = (more : List ℕ) × (whole ≡ front ++ more)

begin_line : (net : NetData) (header : HeaderData) (rows : List (List ℤ)) (line : List ℕ) (lines : List (List ℕ)) (blank : Bool) (row : Result (List ℤ) RowFault) → is_blank line ≡ blank → row_of header line ≡ row → BeginsWith (rows_answer net header rows lines).out (text_of net rows) → ((values : List ℤ) → BeginsWith (rows_answer net header (values ∷ rows) lines).out (text_of net (values ∷ rows))) → BeginsWith (rows_answer net header rows (line ∷ lines)).out (text_of net rows)
begin_line net header rows line lines true row blank is here below =
    subst (λ (o : Outcome). BeginsWith o.out (text_of net rows)) (sym (rows_blank net header rows line lines blank)) here
begin_line net header rows line lines false (Ok values) full is here below =
    let b = below values in
    let added = values_line (outputs_of net (values ∷ rows)) in
    (added ++ b.0, ap (λ (o : Outcome). o.out) (rows_step net header rows line lines values full is) ∙ b.1 ∙ ap (λ l. l ++ b.0) (text_step net rows values) ∙ append_assoc (text_of net rows) added b.0)
begin_line net header rows line lines false (Err fault) full is here below =
    ([], ap (λ (o : Outcome). o.out) (rows_refused net header rows line lines fault full is))

pub rows_begin : (net : NetData) (header : HeaderData) (rows : List (List ℤ)) (lines : List (List ℕ)) → BeginsWith (rows_answer net header rows lines).out (text_of net rows)
rows_begin net header rows [] = ([], ap (λ (o : Outcome). o.out) (rows_end net header rows))
rows_begin net header rows (line ∷ lines) =
    begin_line net header rows line lines (is_blank line) (row_of header line) refl refl (rows_begin net header rows lines) (λ values. rows_begin net header (values ∷ rows) lines)
