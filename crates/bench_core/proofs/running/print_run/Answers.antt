use Rattle.std.proofs.Common.{[], Err}
use Rattle.std.specs.Bool.{⊤}
use Rattle.text_words.specs.Lines.{lines_from}
use Rattle.bench_core.specs.PrintedRuns.{names_line}
use Rattle.bench_core.specs.RunSteps.{headed_answer, rows_answer}
use Rattle.bench_core.proofs.EndingLaws.{cause_behind_printing, cause_of_printing}
use Rattle.bench_core.proofs.RunLaws.{goes_printed, stops_printed}
use Rattle.bench_core.proofs.running.print_run.Goals as goal

pub returns-in-Ok-flush-clause-told : goal.returns-in-Ok-flush-clause-told
unfolding headed_answer
returns-in-Ok-flush-clause-told g c failed =
    let net = c.args.network.now in
    goes_printed (names_line net) (rows_answer net c.args.header.now [] (lines_from c.args.below.now)) failed (g.O.Sink.written c.args.out.now) (g.O.Sink.written c.flush.new.out) (g.O.Sink.written c.print_rows.new.out) (g.O.Sink.faults c.args.out.now) (g.O.Sink.faults c.flush.new.out) (g.O.Sink.faults c.print_rows.new.out) c.print_rows.result (rw c.in-Ok.ensures at c.in-Ok-flush.ensures.text) (c.print_rows.ensures.told failed)

pub returns-in-Ok-flush-clause-cause : goal.returns-in-Ok-flush-clause-cause
returns-in-Ok-flush-clause-cause g c shelf =
    cause_behind_printing [] shelf (g.O.Sink.written c.args.out.now) (g.O.Sink.written c.flush.new.out) (g.O.Sink.written c.print_rows.new.out) (g.O.Sink.faults c.args.out.now) (g.O.Sink.faults c.flush.new.out) (g.O.Sink.faults c.print_rows.new.out) c.print_rows.result c.in-Ok-flush.ensures.count (c.print_rows.ensures.cause shelf)

pub returns-clause-told : goal.returns-clause-told
unfolding headed_answer
returns-clause-told g c failed =
    let net = c.args.network.now in
    stops_printed (names_line net) (rows_answer net c.args.header.now [] (lines_from c.args.below.now)) failed _ _ _ _ c.in-Err.ending (rw c.in-Ok.ensures at c.in-Err.ensures.text)

pub returns-clause-cause : goal.returns-clause-cause
returns-clause-cause g c shelf =
    cause_of_printing {T = ⊤} c.in-Ok.text.items _ [] shelf (Err c.in-Err.ending) c.in-Err.ensures.text
