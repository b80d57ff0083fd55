use Rattle.std.proofs.Common.{◌∷◌, []}
use Rattle.bench_core.specs.Calls.{sink_call, shelf_call}
use Rattle.bench_core.specs.RunAnswer.{recording_limit, run_answer, run_bytes}
use Rattle.bench_core.proofs.EndingLaws.{cause_behind_files, goes_over_two, if_done}
use Rattle.bench_core.proofs.running.run.Goals as goal

pub returns-in-Ok-clause-told : goal.returns-in-Ok-clause-told
unfolding run_answer
returns-in-Ok-clause-told g c x e =
    goes_over_two x c.args.net.now c.args.rec.now recording_limit run_bytes c.in-Ok.network c.in-Ok.recording.items (g.S.Shelf.failed c.network_and_bytes.new.shelf) (sink_call g.O.Sink.written g.O.Sink.faults c.args.out.now c.replay.new.out) c.replay.result (c.in-Ok.ensures.network x e) (c.in-Ok.ensures.bytes x e) (rw c.deref.ensures.value at (c.replay.ensures.told (g.S.Shelf.failed c.network_and_bytes.new.shelf)))

pub returns-in-Ok-clause-cause : goal.returns-in-Ok-clause-cause
returns-in-Ok-clause-cause g c =
    cause_behind_files (c.args.net.now ∷ c.args.rec.now ∷ []) (shelf_call g.S.Shelf.faults g.S.Shelf.failed c.args.shelf.now c.network_and_bytes.new.shelf) (sink_call g.O.Sink.written g.O.Sink.faults c.args.out.now c.replay.new.out) c.replay.result (c.replay.ensures.cause (shelf_call g.S.Shelf.faults g.S.Shelf.failed c.args.shelf.now c.network_and_bytes.new.shelf))

pub returns-in-Ok-clause-finished : goal.returns-in-Ok-clause-finished
returns-in-Ok-clause-finished g c = if_done _ c.replay.result c.in-Ok.ensures.finished

pub returns-in-Err-clause-told : goal.returns-in-Err-clause-told
unfolding run_answer
returns-in-Err-clause-told g c x e =
    c.in-Err.ensures.stopped x e run_bytes (g.O.Sink.written c.args.out.now) (g.O.Sink.faults c.args.out.now)

pub returns-in-Err-clause-cause : goal.returns-in-Err-clause-cause
returns-in-Err-clause-cause g c = c.in-Err.ensures.cause (sink_call g.O.Sink.written g.O.Sink.faults c.args.out.now c.args.out.now)
