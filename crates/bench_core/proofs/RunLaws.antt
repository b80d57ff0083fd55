-- How a run stands between two rows, and how it ends.
use Rattle.std.proofs.Common.{◌≡◌, ℕ, zero, suc, ◌+◌, true, false, List, [], ◌∷◌, ◌++◌, length, take, refl, sym, ap, ◌∙◌, subst, arith, append_assoc, append-nil, ℤ, Option, Result, Ok, Err}
use Rattle.std.specs.Io.KnownBytes.{Appends}
use Rattle.std.proofs.KnownBytes.{Appends-nil, Appends-trans}
use Rattle.text_words.specs.Lines.{lines_of}
use Rattle.net_model.specs.Wires.{NetData}
use Rattle.net_eval.specs.After.{PlanData, IsAfter, outputs_of}
use Rattle.rec_csv.specs.declared.faults.RowFault.{RowFault}
use Rattle.rec_csv.specs.declared.faults.RowFault.TheVariants as row
use Rattle.rec_csv.specs.Fields.{is_blank}
use Rattle.rec_csv.specs.Headers.{HeaderData}
use Rattle.rec_csv.specs.Rows.{Tells, row_of}
use Rattle.rec_csv.specs.Recordings.{bad_row}
use Rattle.bench_core.specs.declared.endings.Ending.{Ending}
use Rattle.bench_core.specs.declared.endings.Ending.TheVariants.{Usage, Refused, CannotRead, CannotWrite, OutOfMemory}
use Rattle.bench_core.specs.Calls.{SinkCall}
use Rattle.bench_core.specs.Outcomes.{Outcome, printed, unless_refused}
use Rattle.bench_core.specs.HowItEnds.{Ends, EndsEarly, Prints, StopsInside, StopsPrinting, still}
use Rattle.bench_core.specs.PrintedRuns.{values_line}
use Rattle.bench_core.specs.RecordingTexts.{recording_refused}
use Rattle.bench_core.specs.RunAnswer.{run_bytes}
use Rattle.bench_core.specs.RunSteps.{EvaluatesRow, KeepsText, StopsAtRow, head_step, headed_answer, rows_answer}
use Rattle.bench_core.proofs.EndingLaws.{sink_over, stops_inside}
use Rattle.bench_core.proofs.RecordingSteps.{text_of, text_none, text_step, rows_begin, rows_blank, rows_end, rows_refused, rows_step, run_by_head}

-- ---- fronts of what is to be written

-- between two states of a sink a front of these bytes was written
abbrev Front : Option (List ℕ) → Option (List ℕ) → List ℕ → Type 0
Front old new bytes = (k : ℕ) × Appends old new (take k bytes)

-- a front of some bytes is one of those and more
longer_front : (k : ℕ) (bytes more : List ℕ) → (n : ℕ) × (take n (bytes ++ more) ≡ take k bytes)
longer_front zero bytes more = (0, refl)
longer_front (suc k) [] more = (0, refl)
longer_front (suc k) (b ∷ bytes) more = let r = longer_front k bytes more in (suc r.0, ap (λ l. b ∷ l) r.1)

front_of_more : (a b : Option (List ℕ)) (bytes more : List ℕ) → Front a b bytes → Front a b (bytes ++ more)
front_of_more a b bytes more h =
    let r = longer_front h.0 bytes more in (r.0, subst (Appends a b) (sym r.1) h.1)

take_behind : (front back : List ℕ) (k : ℕ) → (n : ℕ) × (take n (front ++ back) ≡ front ++ take k back)
take_behind [] back k = (k, refl)
take_behind (b ∷ front) back k = let r = take_behind front back k in (suc r.0, ap (λ l. b ∷ l) r.1)

-- bytes and then a front of others
front_behind : (a b c : Option (List ℕ)) (front back : List ℕ) → Appends a b front → Front b c back → Front a c (front ++ back)
front_behind a b c front back h k =
    let r = take_behind front back k.0 in
    (r.0, subst (Appends a c) (sym r.1) (Appends-trans a b c front (take k.0 back) h k.1))

-- ---- printing, and what comes after it

pub goes_printed : {T : Type 0} (bytes : List ℕ) (o : Outcome) (failed : List ℕ) (a b c : Option (List ℕ)) (x y z : ℕ) (r : Result T Ending) → Appends a b bytes → Ends o failed (sink_over b c y z) r → Ends (printed bytes o) failed (sink_over a c x z) r
goes_printed bytes o failed a b c x y z (Ok v) h e = (e.0, e.1, Appends-trans a b c bytes o.out h e.2)
goes_printed bytes o failed a b c x y z (Err Usage) h e = (e.0, e.1, Appends-trans a b c bytes o.out h e.2)
goes_printed bytes o failed a b c x y z (Err (Refused n)) h e = (e.0, e.1, Appends-trans a b c bytes o.out h e.2)
goes_printed bytes o failed a b c x y z (Err (CannotRead text)) h e = (e.0, front_behind a b c bytes o.out h e.1)
goes_printed bytes o failed a b c x y z (Err CannotWrite) h e = front_behind a b c bytes o.out h e
goes_printed bytes o failed a b c x y z (Err OutOfMemory) h e = front_behind a b c bytes o.out h e

pub stops_printed : (bytes : List ℕ) (o : Outcome) (failed : List ℕ) (a b : Option (List ℕ)) (before now : ℕ) (e : Ending) → StopsPrinting bytes (sink_over a b before now) e → EndsEarly (printed bytes o) failed (sink_over a b before now) e
stops_printed bytes o failed a b before now Usage h = absurd h
stops_printed bytes o failed a b before now (Refused n) h = absurd h
stops_printed bytes o failed a b before now (CannotRead text) h = absurd h
stops_printed bytes o failed a b before now CannotWrite h = front_of_more a b bytes o.out h.1
stops_printed bytes o failed a b before now OutOfMemory h = front_of_more a b bytes o.out h

-- ---- the header

pub stops_at_head : (net : NetData) (bytes failed : List ℕ) (old : Option (List ℕ)) (count : ℕ) (e : Ending) → StopsInside (head_step net (lines_of bytes)) e → EndsEarly (run_bytes net bytes) failed (still old count) e
stops_at_head net bytes failed old count e h =
    subst (λ (o : Outcome). EndsEarly o failed (still old count) e) (sym (run_by_head net bytes)) (stops_inside (head_step net (lines_of bytes)) (headed_answer net) failed old count e h)

pub goes_below_head : {T : Type 0} (net : NetData) (bytes : List ℕ) (header : HeaderData) (below : List (List ℕ)) (failed : List ℕ) (out : SinkCall) (r : Result T Ending) → head_step net (lines_of bytes) ≡ Ok (record { header = header; below = below }) → Ends (headed_answer net (record { header = header; below = below })) failed out r → Ends (run_bytes net bytes) failed out r
goes_below_head {T} net bytes header below failed out r is e =
    subst (λ (o : Outcome). Ends {T = T} o failed out r) (sym (run_by_head net bytes ∙ ap (λ s. unless_refused s (headed_answer net)) is)) e

-- ---- between two rows

-- The lines that are left answer, below the rows so far, what all lines answer; so many rows there are, and the plan
-- stands behind them; and what was written and what waits are their lines.
pub record IsUnderWay (net : NetData) (header : HeaderData) (all rest : List (List ℕ)) (number : ℕ) (plan : PlanData) (waiting : List ℕ) (old now : Option (List ℕ)) : Type 0 where
  pub rows : List (List ℤ)
  pub same : rows_answer net header [] all ≡ rows_answer net header rows rest
  pub count : number ≡ length rows
  pub its_net : plan.net ≡ net
  pub after : IsAfter net rows plan.kept
  pub shown : List ℕ
  pub written : Appends old now shown
  pub text : shown ++ waiting ≡ text_of net rows

pub under_start : (net : NetData) (header : HeaderData) (all : List (List ℕ)) (plan : PlanData) (waiting : List ℕ) (old : Option (List ℕ)) → plan.net ≡ net → IsAfter net [] plan.kept → waiting ≡ [] → IsUnderWay net header all all 0 plan waiting old old
under_start net header all plan waiting old its start empty = record {
  rows = [];
  same = refl;
  count = refl;
  its_net = its;
  after = start;
  shown = [];
  written = Appends-nil old;
  text = empty ∙ sym (text_none net);
}

pub under_blank : (net : NetData) (header : HeaderData) (all rest : List (List ℕ)) (line : List ℕ) (number : ℕ) (plan : PlanData) (waiting : List ℕ) (old now : Option (List ℕ)) → IsUnderWay net header all (line ∷ rest) number plan waiting old now → is_blank line ≡ true → IsUnderWay net header all rest number plan waiting old now
under_blank net header all rest line number plan waiting old now u blank = record {
  rows = u.rows;
  same = u.same ∙ rows_blank net header u.rows line rest blank;
  count = u.count;
  its_net = u.its_net;
  after = u.after;
  shown = u.shown;
  written = u.written;
  text = u.text;
}

pub under_row : (net : NetData) (header : HeaderData) (all rest : List (List ℕ)) (line : List ℕ) (number : ℕ) (before behind : PlanData) (waiting waits : List ℕ) (old now : Option (List ℕ)) → IsUnderWay net header all (line ∷ rest) number before waiting old now → is_blank line ≡ false → behind.net ≡ before.net → EvaluatesRow header line before behind waiting waits → IsUnderWay net header all rest (number + 1) behind waits old now
under_row net header all rest line number before behind waiting waits old now u full its e =
    let r = e u.rows (subst (λ (n : NetData). IsAfter n u.rows before.kept) (sym u.its_net) u.after) in
    let added = values_line (outputs_of net (r.0 ∷ u.rows)) in
    let more : waits ≡ waiting ++ added = subst (λ (n : NetData). waits ≡ waiting ++ values_line (outputs_of n (r.0 ∷ u.rows))) u.its_net r.3 in
    record {
      rows = r.0 ∷ u.rows;
      same = u.same ∙ rows_step net header u.rows line rest r.0 full r.1;
      count = omega (arith, u.count);
      its_net = its ∙ u.its_net;
      after = subst (λ (n : NetData). IsAfter n (r.0 ∷ u.rows) behind.kept) u.its_net r.2;
      shown = u.shown;
      written = u.written;
      text = ap (λ l. u.shown ++ l) more ∙ sym (append_assoc u.shown waiting added) ∙ ap (λ l. l ++ added) u.text ∙ sym (text_step net u.rows r.0);
    }

pub under_flushed : (net : NetData) (header : HeaderData) (all rest : List (List ℕ)) (number : ℕ) (plan : PlanData) (waiting waits : List ℕ) (old now new : Option (List ℕ)) → IsUnderWay net header all rest number plan waiting old now → Appends now new waiting → waits ≡ [] → IsUnderWay net header all rest number plan waits old new
under_flushed net header all rest number plan waiting waits old now new u h empty = record {
  rows = u.rows;
  same = u.same;
  count = u.count;
  its_net = u.its_net;
  after = u.after;
  shown = u.shown ++ waiting;
  written = Appends-trans old now new u.shown waiting u.written h;
  text = ap (λ l. (u.shown ++ waiting) ++ l) empty ∙ append-nil (u.shown ++ waiting) ∙ u.text;
}

-- ---- its end

-- a front of what waits was written
front_so_far : (net : NetData) (header : HeaderData) (all rest : List (List ℕ)) (number : ℕ) (plan : PlanData) (waiting : List ℕ) (old now new : Option (List ℕ)) → IsUnderWay net header all rest number plan waiting old now → Front now new waiting → Front old new (rows_answer net header [] all).out
front_so_far net header all rest number plan waiting old now new u h =
    let b = rows_begin net header u.rows rest in
    let whole : (rows_answer net header [] all).out ≡ (u.shown ++ waiting) ++ b.0 =
    ap (λ (o : Outcome). o.out) u.same ∙ b.1 ∙ ap (λ l. l ++ b.0) (sym u.text) in
    subst (Front old new) (sym whole) (front_of_more old new (u.shown ++ waiting) b.0 (front_behind old now new u.shown waiting u.written h))

pub stops_flush : (net : NetData) (header : HeaderData) (all rest : List (List ℕ)) (number : ℕ) (plan : PlanData) (waiting : List ℕ) (old now new : Option (List ℕ)) (failed : List ℕ) (first before later : ℕ) (e : Ending) → IsUnderWay net header all rest number plan waiting old now → StopsPrinting waiting (sink_over now new before later) e → EndsEarly (rows_answer net header [] all) failed (sink_over old new first later) e
stops_flush net header all rest number plan waiting old now new failed first before later Usage u h = absurd h
stops_flush net header all rest number plan waiting old now new failed first before later (Refused n) u h = absurd h
stops_flush net header all rest number plan waiting old now new failed first before later (CannotRead text) u h = absurd h
stops_flush net header all rest number plan waiting old now new failed first before later CannotWrite u h = front_so_far net header all rest number plan waiting old now new u h.1
stops_flush net header all rest number plan waiting old now new failed first before later OutOfMemory u h = front_so_far net header all rest number plan waiting old now new u h

-- all that waits was written, behind what was shown
written_whole : (net : NetData) (header : HeaderData) (all rest : List (List ℕ)) (number : ℕ) (plan : PlanData) (waiting : List ℕ) (old now new : Option (List ℕ)) → (u : IsUnderWay net header all rest number plan waiting old now) → Appends now new waiting → Appends old new (text_of net u.rows)
written_whole net header all rest number plan waiting old now new u h =
    subst (Appends old new) u.text (Appends-trans old now new u.shown waiting u.written h)

pub ends_run : {T : Type 0} (net : NetData) (header : HeaderData) (all : List (List ℕ)) (number : ℕ) (plan : PlanData) (waiting : List ℕ) (old now new : Option (List ℕ)) (failed : List ℕ) (first before later : ℕ) (r : Result T Ending) → IsUnderWay net header all [] number plan waiting old now → Prints waiting (sink_over now new before later) r → Ends (rows_answer net header [] all) failed (sink_over old new first later) r
ends_run {T} net header all number plan waiting old now new failed first before later (Ok v) u h =
    let e = u.same ∙ rows_end net header u.rows in
    subst (λ (o : Outcome). Ends {T = T} o failed (sink_over old new first later) (Ok v)) (sym e) (refl, refl, subst (Appends old new) (sym (append-nil (text_of net u.rows))) (written_whole net header all [] number plan waiting old now new u h))
ends_run net header all number plan waiting old now new failed first before later (Err e) u h = stops_flush net header all [] number plan waiting old now new failed first before later e u h

-- a row is refused by what its line says
refused_ends : (net : NetData) (header : HeaderData) (all rest : List (List ℕ)) (line : List ℕ) (number : ℕ) (plan : PlanData) (waiting : List ℕ) (old now new : Option (List ℕ)) (failed : List ℕ) (first before later : ℕ) (fault : RowFault) (e : Ending) → IsUnderWay net header all (line ∷ rest) number plan waiting old now → is_blank line ≡ false → row_of header line ≡ Err fault → StopsAtRow waiting (recording_refused net.wires (bad_row (number + 1) fault)) (sink_over now new before later) e → EndsEarly (rows_answer net header [] all) failed (sink_over old new first later) e
refused_ends net header all rest line number plan waiting old now new failed first before later fault Usage u full is h = absurd h
refused_ends net header all rest line number plan waiting old now new failed first before later fault (Refused n) u full is h =
    let c : number + 1 ≡ length u.rows + 1 = omega (arith, u.count) in
    let e = u.same ∙ rows_refused net header u.rows line rest fault full is in
    let r = recording_refused net.wires (bad_row (length u.rows + 1) fault) in
    let g = subst (λ k. (n.status ≡ (recording_refused net.wires (bad_row k fault)).status) × (n.text.items ≡ (recording_refused net.wires (bad_row k fault)).text)) c (h.0, h.1) in
    subst (λ (o : Outcome). EndsEarly o failed (sink_over old new first later) (Refused n)) (sym e) (sym g.0, sym g.1, subst (Appends old new) (sym (append-nil (text_of net u.rows))) (written_whole net header all (line ∷ rest) number plan waiting old now new u h.2))
refused_ends net header all rest line number plan waiting old now new failed first before later fault (CannotRead text) u full is h = absurd h
refused_ends net header all rest line number plan waiting old now new failed first before later fault CannotWrite u full is h = front_so_far net header all (line ∷ rest) number plan waiting old now new u h.1
refused_ends net header all rest line number plan waiting old now new failed first before later fault OutOfMemory u full is h = front_so_far net header all (line ∷ rest) number plan waiting old now new u h

-- memory ran out: nothing more was written
memory_ends : (net : NetData) (header : HeaderData) (all rest : List (List ℕ)) (number : ℕ) (plan : PlanData) (waiting : List ℕ) (old now new : Option (List ℕ)) → IsUnderWay net header all rest number plan waiting old now → new ≡ now → Front old new (rows_answer net header [] all).out
memory_ends net header all rest number plan waiting old now new u same =
    front_so_far net header all rest number plan waiting old now new u (0, subst (λ s. Appends now s []) (sym same) (Appends-nil now))

pub stops_row : (net : NetData) (header : HeaderData) (all rest : List (List ℕ)) (line : List ℕ) (number : ℕ) (plan : PlanData) (waiting waits : List ℕ) (old now new : Option (List ℕ)) (failed : List ℕ) (first before later : ℕ) (fault : RowFault) (e : Ending) → IsUnderWay net header all (line ∷ rest) number plan waiting old now → is_blank line ≡ false → Tells (row_of header line) fault → KeepsText waiting waits fault → StopsAtRow waits (recording_refused net.wires (bad_row (number + 1) fault)) (sink_over now new before later) e → (fault ≡ row.OutOfMemory → (e ≡ OutOfMemory) × (new ≡ now)) → EndsEarly (rows_answer net header [] all) failed (sink_over old new first later) e
stops_row net header all rest line number plan waiting waits old now new failed first before later row.BadLine e u full tells kept h memory =
    refused_ends net header all rest line number plan waiting old now new failed first before later row.BadLine e u full tells (subst (λ t. StopsAtRow t (recording_refused net.wires (bad_row (number + 1) row.BadLine)) (sink_over now new before later) e) kept h)
stops_row net header all rest line number plan waiting waits old now new failed first before later row.BadWidth e u full tells kept h memory =
    refused_ends net header all rest line number plan waiting old now new failed first before later row.BadWidth e u full tells (subst (λ t. StopsAtRow t (recording_refused net.wires (bad_row (number + 1) row.BadWidth)) (sink_over now new before later) e) kept h)
stops_row net header all rest line number plan waiting waits old now new failed first before later (row.BadNumber wire) e u full tells kept h memory =
    refused_ends net header all rest line number plan waiting old now new failed first before later (row.BadNumber wire) e u full tells (subst (λ t. StopsAtRow t (recording_refused net.wires (bad_row (number + 1) (row.BadNumber wire))) (sink_over now new before later) e) kept h)
stops_row net header all rest line number plan waiting waits old now new failed first before later (row.OutOfType wire) e u full tells kept h memory =
    refused_ends net header all rest line number plan waiting old now new failed first before later (row.OutOfType wire) e u full tells (subst (λ t. StopsAtRow t (recording_refused net.wires (bad_row (number + 1) (row.OutOfType wire))) (sink_over now new before later) e) kept h)
stops_row net header all rest line number plan waiting waits old now new failed first before later row.OutOfMemory e u full tells kept h memory =
    let m = memory refl in
    subst (EndsEarly (rows_answer net header [] all) failed (sink_over old new first later)) (sym m.0) (memory_ends net header all (line ∷ rest) number plan waiting old now new u m.1)
