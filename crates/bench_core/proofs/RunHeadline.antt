-- Where `run` answers 0, it printed the network's meaning over the recording.
use Rattle.std.proofs.Common.{◌≡◌, ℕ, Bool, true, false, List, [], ◌++◌, Option, Some, None, Result, Ok, Err, refl, sym, ◌∙◌, ap, subst, append-nil, arith, ℤ}
use Rattle.std.specs.Prelude.{codes, ◌&&◌}
use Rattle.fx_io.specs.Outside.{bytes_of}
use Rattle.net_model.specs.declared.wires.Wire.{Wire}
use Rattle.net_model.specs.Wires.{NetData}
use Rattle.net_text.proofs.ReadingLaw.{network_of_valid}
use Rattle.net_meaning.specs.Blocks.{machine}
use Rattle.net_meaning.specs.Runs.{HasAllInputs, table}
use Rattle.net_meaning.proofs.TableRun.{table_is_run}
use Rattle.net_meaning.proofs.OneRun.{runs_agree}
use Rattle.rec_csv.specs.Recordings.{Headed, Recording, RecordingFault, no_header, bad_header, bad_row, head_of, read_below, recording_of}
use Rattle.text_words.specs.Lines.{lines_of}
use Rattle.bench_core.specs.Calls.{SinkCall, Writes}
use Rattle.bench_core.specs.Outcomes.{Outcome}
use Rattle.bench_core.specs.Requests.{is_file_word, run_words, request_of}
use Rattle.bench_core.proofs.RequestLaws.{over_files}
use Rattle.bench_core.specs.PrintedRuns.{run_text}
use Rattle.bench_core.specs.RecordingTexts.{recording_refused}
use Rattle.bench_core.specs.RunAnswer.{recording_end, recording_limit, run_answer, run_bytes, run_printed, run_recording}
use Rattle.bench_core.specs.WholeAnswer.{answer_of, answer_of_request}
use Rattle.bench_core.specs.Headline.{IsRunOf}
use Rattle.bench_core.specs.Clauses.{Runs}
use Rattle.bench_core.proofs.PassedSteps.{passed_both}
use Rattle.rec_csv.proofs.AllInputs.{rows_have_inputs}

-- ---- a recording that is read out

-- each refusal of a recording has the status 4
refused_with_4 : (wires : List Wire) (fault : RecordingFault) → (recording_refused wires fault).status ≡ 4
unfolding recording_refused
refused_with_4 wires no_header = refl
refused_with_4 wires (bad_header fault) = refl
refused_with_4 wires (bad_row number fault) = refl

read_out : (net : NetData) (fault : Option RecordingFault) → (recording_end net fault).status ≡ 0 → (fault ≡ None) × ((recording_end net fault).out ≡ [])
read_out net None h = (refl, refl)
read_out net (Some fault) h = absurd (omega (arith, refused_with_4 net.wires fault, h))

-- then it has a header
headed_out : (h : Result Headed RecordingFault) → (read_below h).fault ≡ None → (read_below h).is_headed ≡ true
headed_out (Err fault) e = absurd (cc)
headed_out (Ok h) e = refl

same_recording : (r : Recording) → r.is_headed ≡ true → r.fault ≡ None → r ≡ record { is_headed = true; rows = r.rows; fault = None }
same_recording r h f =
    ap (λ b. record { is_headed = b; rows = r.rows; fault = r.fault }) h ∙ ap (λ (e : Option RecordingFault). record { is_headed = true; rows = r.rows; fault = e }) f

-- what is printed where the bytes are read out
record ReadOut (net : NetData) (bytes : List ℕ) (o : Outcome) : Type 0 where
  pub rows : List (List ℤ)
  pub is_recording : recording_of net.wires bytes ≡ record { is_headed = true; rows = rows; fault = None }
  pub has_inputs : HasAllInputs net rows
  pub prints : o.out ≡ run_text net (table machine net rows)

bytes_read_out : (net : NetData) (bytes : List ℕ) → (run_bytes net bytes).status ≡ 0 → ReadOut net bytes (run_bytes net bytes)
unfolding run_bytes run_recording recording_of
bytes_read_out net bytes h =
    let r = recording_of net.wires bytes in
    let e = read_out net r.fault h in
    let is = headed_out (head_of net.wires (lines_of bytes)) e.0 in
    record {
      rows = r.rows;
      is_recording = same_recording r is e.0;
      has_inputs = rows_have_inputs net.wires bytes;
      prints = ap (λ l. run_printed net r.is_headed r.rows ++ l) e.1 ∙ append-nil (run_printed net r.is_headed r.rows) ∙ ap (λ b. run_printed net b r.rows) is;
    }

-- ---- the command

-- where the answer of `run` has the status 0
record IsRunDone (files : List (List ℕ × List ℕ)) (net rec : List ℕ) (o : Outcome) : Type 0 where
  pub runs : IsRunOf (bytes_of files net) (bytes_of files rec) o.out

run_done : (files : List (List ℕ × List ℕ)) (net rec : List ℕ) → (run_answer files net rec).status ≡ 0 → IsRunDone files net rec (run_answer files net rec)
unfolding run_answer
run_done files net rec h =
    let n = passed_both files net rec recording_limit run_bytes h in
    let r = bytes_read_out n.network (bytes_of files rec) n.done_after in
    let valid = network_of_valid (bytes_of files net) n.network n.is_network in
    let run = table_is_run machine n.network valid r.rows r.has_inputs in
    record {
      runs = record {
        network = n.network;
        rows = r.rows;
        cells = table machine n.network r.rows;
        is_network = n.is_network;
        is_recording = r.is_recording;
        is_run = run;
        is_only = λ others is. runs_agree machine n.network valid r.rows others (table machine n.network r.rows) is run;
        prints = n.prints ∙ r.prints;
      };
    }

-- the words `run NET REC` ask for `run`, or are outside the grammar
asked_run : (files : List (List ℕ × List ℕ)) (net rec : List ℕ) (b : Bool) → (answer_of_request files (over_files (codes "run") net rec b)).status ≡ 0 → IsRunDone files net rec (answer_of_request files (over_files (codes "run") net rec b))
asked_run files net rec true h = run_done files net rec h
asked_run files net rec false h = absurd (omega arith)

words_run : (files : List (List ℕ × List ℕ)) (words : List (List ℕ)) (net rec : List ℕ) → words ≡ run_words net rec → (answer_of words files).status ≡ 0 → IsRunDone files net rec (answer_of words files)
unfolding answer_of
words_run files words net rec w h =
    let P : List (List ℕ) → Type 0 = λ ws. (answer_of_request files (request_of ws)).status ≡ 0 → IsRunDone files net rec (answer_of_request files (request_of ws)) in
    subst P (sym w) (asked_run files net rec (is_file_word net && is_file_word rec)) h

-- status 0 for the words of `run`
pub runs_done : (files : List (List ℕ × List ℕ)) (words : List (List ℕ)) (net rec : List ℕ) (out : SinkCall) → words ≡ run_words net rec → ((answer_of words files).status ≡ 0) × Writes out (answer_of words files).out → Runs files net rec out
runs_done files words net rec out w h =
    ((answer_of words files).out, h.1, (words_run files words net rec w h.0).runs)
