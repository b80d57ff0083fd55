use Rattle.std.proofs.Common.{[], List}
use Rattle.part_rules.specs.declared.bounds.Bounds.{Bounds}
use Rattle.bench_core.specs.Calls.{sink_call}
use Rattle.bench_core.specs.CheckAnswer.{certificate_in, check_bytes, check_entries}
use Rattle.bench_core.proofs.EndingLaws.{cause_inside, goes_inside, stops_inside}
use Rattle.bench_core.proofs.checking.certify.Goals as goal

pub returns-in-Ok-clause-told : goal.returns-in-Ok-clause-told
unfolding check_bytes
returns-in-Ok-clause-told g c failed =
    goes_inside (λ (entries : List Bounds). entries) (certificate_in c.args.network.now c.args.cert.now c.args.text.now) (check_entries c.args.network.now) failed (sink_call g.O.Sink.written g.O.Sink.faults c.args.out.now c.tell.new.out) c.in-Ok.certificate c.tell.result c.in-Ok.ensures.made (c.tell.ensures.told failed)

pub returns-in-Err-clause-told : goal.returns-in-Err-clause-told
unfolding check_bytes
returns-in-Err-clause-told g c failed =
    stops_inside (certificate_in c.args.network.now c.args.cert.now c.args.text.now) (check_entries c.args.network.now) failed (g.O.Sink.written c.args.out.now) (g.O.Sink.faults c.args.out.now) c.in-Err.ending c.in-Err.ensures.made

pub returns-in-Err-clause-cause : goal.returns-in-Err-clause-cause
returns-in-Err-clause-cause g c shelf =
    cause_inside (certificate_in c.args.network.now c.args.cert.now c.args.text.now) [] shelf (sink_call g.O.Sink.written g.O.Sink.faults c.args.out.now c.args.out.now) c.in-Err.ending c.in-Err.ensures.made
