use Rattle.std.proofs.Common.{[]}
use Rattle.text_words.specs.Lines.{lines_from, lines_of}
use Rattle.bench_core.specs.Calls.{sink_call}
use Rattle.bench_core.specs.RunSteps.{head_step}
use Rattle.bench_core.proofs.EndingLaws.{cause_inside}
use Rattle.bench_core.proofs.RunLaws.{goes_below_head, stops_at_head}
use Rattle.bench_core.proofs.running.replay.Goals as goal

pub returns-in-Ok-clause-told : goal.returns-in-Ok-clause-told
returns-in-Ok-clause-told g c failed =
    goes_below_head c.args.network.now c.args.recording.now c.in-Ok.header (lines_from c.in-Ok.below.now) failed (sink_call g.O.Sink.written g.O.Sink.faults c.args.out.now c.print_run.new.out) c.print_run.result c.in-Ok.ensures.made (c.print_run.ensures.told failed)

pub returns-in-Err-clause-told : goal.returns-in-Err-clause-told
returns-in-Err-clause-told g c failed =
    stops_at_head c.args.network.now c.args.recording.now failed (g.O.Sink.written c.args.out.now) (g.O.Sink.faults c.args.out.now) c.in-Err.ending c.in-Err.ensures.made

pub returns-in-Err-clause-cause : goal.returns-in-Err-clause-cause
returns-in-Err-clause-cause g c shelf =
    cause_inside (head_step c.args.network.now (lines_of c.args.recording.now)) [] shelf (sink_call g.O.Sink.written g.O.Sink.faults c.args.out.now c.args.out.now) c.in-Err.ending c.in-Err.ensures.made
