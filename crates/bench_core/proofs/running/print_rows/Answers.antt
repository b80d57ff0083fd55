use Rattle.std.proofs.Common.{◌≡◌, [], sym, ◌∙◌, true, false, arith}
use Rattle.text_words.specs.Lines.{lines_from}
use Rattle.rec_csv.specs.Fields.{is_blank}
use Rattle.bench_core.specs.Calls.{sink_call}
use Rattle.bench_core.specs.RunSteps.{rows_answer}
use Rattle.bench_core.proofs.EndingLaws.{handed_on, printing_causes, cause_behind_printing, cause_of_printing}
use Rattle.bench_core.proofs.RunLaws.{under_blank, under_row, under_flushed, stops_flush, stops_row, ends_run}
use Rattle.bench_core.proofs.running.print_rows.Goals as goal

pub loop-line-preserved-in-Continue-1 : goal.loop-line-preserved-in-Continue-1
loop-line-preserved-in-Continue-1 g c =
    let net = c.args.network.now in
    let header = c.args.header.now in
    let all = lines_from c.args.below.now in
    let line = c.in-Some.line.now in
    let after = lines_from c.in-Some.after.now in
    let full : is_blank line ≡ false = sym c.is_blank.ensures ∙ c.if-not-is_blank.true in
    let u = rw c.in-Some.ensures.lines at c.loop-line.invariant.under in
    let v = under_row net header all after line c.loop-line.number c.loop-line.evaluation c.push_row.new.self c.loop-line.text.items c.push_row.new.text.items (g.O.Sink.written c.args.out.now) (g.O.Sink.written c.loop-line.out) u full c.push_row.ensures.net c.in-Ok.ensures.row in
    record {
      under = under_flushed net header all after _ c.push_row.new.self c.push_row.new.text.items c.flush.new.text.items (g.O.Sink.written c.args.out.now) (g.O.Sink.written c.loop-line.out) (g.O.Sink.written c.flush.new.out) v c.in_ok-flush-in-Ok.ensures.text c.in_ok-flush-in-Ok.ensures.empty;
      fewer = omega (arith, c.loop-line.invariant.fewer, c.in-Some.ensures.shorter);
      counted = omega (arith, c.loop-line.invariant.counted, c.flush.ensures.count);
    }

pub returns-in_err-flush-in-Ok-clause-told : goal.returns-in_err-flush-in-Ok-clause-told
returns-in_err-flush-in-Ok-clause-told g c failed =
    let net = c.args.network.now in
    let header = c.args.header.now in
    let all = lines_from c.args.below.now in
    let line = c.in-Some.line.now in
    let after = lines_from c.in-Some.after.now in
    let full : is_blank line ≡ false = sym c.is_blank.ensures ∙ c.if-not-is_blank.true in
    let u = rw c.in-Some.ensures.lines at c.loop-line.invariant.under in
    let v = under_row net header all after line c.loop-line.number c.loop-line.evaluation c.push_row.new.self c.loop-line.text.items c.push_row.new.text.items (g.O.Sink.written c.args.out.now) (g.O.Sink.written c.loop-line.out) u full c.push_row.ensures.net c.in-Ok.ensures.row in
    let s = stops_flush net header all after _ c.push_row.new.self c.push_row.new.text.items (g.O.Sink.written c.args.out.now) (g.O.Sink.written c.loop-line.out) (g.O.Sink.written c.flush.new.out) failed (g.O.Sink.faults c.args.out.now) (g.O.Sink.faults c.loop-line.out) (g.O.Sink.faults c.flush.new.out) c.in_err-flush-in-Ok.field-0.0 v c.in_err-flush-in-Ok.ensures.text in
    handed_on (rows_answer net header [] all) failed (sink_call g.O.Sink.written g.O.Sink.faults c.args.out.now c.flush.new.out) c.in_err-flush-in-Ok.field-0.0 c.from_residual.result s c.from_residual.ensures.1

pub returns-in-Err-clause-told : goal.returns-in-Err-clause-told
returns-in-Err-clause-told g c failed =
    let line = c.in-Some.line.now in
    let full : is_blank line ≡ false = sym c.is_blank.ensures ∙ c.if-not-is_blank.true in
    let u = rw c.in-Some.ensures.lines at c.loop-line.invariant.under in
    stops_row c.args.network.now c.args.header.now (lines_from c.args.below.now) (lines_from c.in-Some.after.now) line c.loop-line.number c.loop-line.evaluation c.loop-line.text.items c.push_row.new.text.items (g.O.Sink.written c.args.out.now) (g.O.Sink.written c.loop-line.out) (g.O.Sink.written c.stop_at.new.out) failed (g.O.Sink.faults c.args.out.now) (g.O.Sink.faults c.loop-line.out) (g.O.Sink.faults c.stop_at.new.out) c.in-Err.fault c.stop_at.result u full c.in-Err.ensures.fault c.in-Err.ensures.before c.stop_at.ensures.told c.stop_at.ensures.memory

pub returns-clause-told : goal.returns-clause-told
returns-clause-told g c failed =
    let u = rw c.in_default.ensures.lines at c.loop-line.invariant.under in
    ends_run c.args.network.now c.args.header.now (lines_from c.args.below.now) c.loop-line.number c.loop-line.evaluation c.loop-line.text.items (g.O.Sink.written c.args.out.now) (g.O.Sink.written c.loop-line.out) (g.O.Sink.written c.flush-2.new.out) failed (g.O.Sink.faults c.args.out.now) (g.O.Sink.faults c.loop-line.out) (g.O.Sink.faults c.flush-2.new.out) c.flush-2.result u c.flush-2.ensures.text

-- a blank line
pub loop-line-preserved : goal.loop-line-preserved
loop-line-preserved g c =
    let line = c.in-Some.line.now in
    let blank : is_blank line ≡ true = sym c.is_blank.ensures ∙ c.if-not-is_blank.false in
    let u = rw c.in-Some.ensures.lines at c.loop-line.invariant.under in
    record {
      under = under_blank c.args.network.now c.args.header.now (lines_from c.args.below.now) (lines_from c.in-Some.after.now) line c.loop-line.number c.loop-line.evaluation c.loop-line.text.items (g.O.Sink.written c.args.out.now) (g.O.Sink.written c.loop-line.out) u blank;
      fewer = omega (arith, c.loop-line.invariant.fewer, c.in-Some.ensures.shorter);
      counted = c.loop-line.invariant.counted;
    }

pub returns-in_err-flush-in-Ok-clause-cause : goal.returns-in_err-flush-in-Ok-clause-cause
returns-in_err-flush-in-Ok-clause-cause g c shelf =
    printing_causes c.push_row.new.text.items (g.O.Sink.written c.args.out.now) (g.O.Sink.written c.loop-line.out) (g.O.Sink.written c.flush.new.out) (g.O.Sink.faults c.args.out.now) (g.O.Sink.faults c.loop-line.out) (g.O.Sink.faults c.flush.new.out) [] shelf c.in_err-flush-in-Ok.field-0.0 c.from_residual.result c.loop-line.invariant.counted c.in_err-flush-in-Ok.ensures.text c.from_residual.ensures.1

pub returns-clause-cause : goal.returns-clause-cause
returns-clause-cause g c shelf =
    cause_behind_printing [] shelf (g.O.Sink.written c.args.out.now) (g.O.Sink.written c.loop-line.out) (g.O.Sink.written c.flush-2.new.out) (g.O.Sink.faults c.args.out.now) (g.O.Sink.faults c.loop-line.out) (g.O.Sink.faults c.flush-2.new.out) c.flush-2.result c.loop-line.invariant.counted (cause_of_printing c.loop-line.text.items (sink_call g.O.Sink.written g.O.Sink.faults c.loop-line.out c.flush-2.new.out) [] shelf c.flush-2.result c.flush-2.ensures.text)
