-- Each clause is a lemma over how the work ended and what was said of it.
use Rattle.std.proofs.Common.{subst}
use Rattle.fx_io.specs.Whole.{IsReadOut}
use Rattle.bench_core.specs.Calls.{sink_call, shelf_call}
use Rattle.bench_core.specs.Requests.{request_of, PrintsUnread}
use Rattle.bench_core.specs.WholeAnswer.{answer_of}
use Rattle.bench_core.proofs.ClauseLaws.{prints_front, says_read, says_unread, says_front, says_usage, prints_all, holds_done}
use Rattle.bench_core.proofs.HeadlineLaws.{certifies_done}
use Rattle.bench_core.proofs.RunHeadline.{runs_done}
use Rattle.bench_core.proofs.top.bench.Goals as goal

pub returns-clause-front : goal.returns-clause-front
returns-clause-front g c x e =
    prints_front (answer_of c.args.words.now x) _ (sink_call g.O.Sink.written g.O.Sink.faults c.args.out.now c.answer-ending.new.out) c.answer-ending.result (c.answer-ending.ensures.told x e)

pub returns-clause-read : goal.returns-clause-read
returns-clause-read g c e =
    says_read (request_of c.args.words.now) (shelf_call g.S.Shelf.faults g.S.Shelf.failed c.args.shelf.now c.answer-ending.new.shelf) (sink_call g.O.Sink.written g.O.Sink.faults c.args.out.now c.answer-ending.new.out) c.answer-ending.result (sink_call g.E.Sink.written g.E.Sink.faults c.args.err.now c.finish.new.err) c.finish.result c.answer-ending.ensures.cause c.finish.ensures e

pub returns-clause-unread : goal.returns-clause-unread
returns-clause-unread g c e =
    says_unread (PrintsUnread (request_of c.args.words.now) (sink_call g.O.Sink.written g.O.Sink.faults c.args.out.now c.answer-ending.new.out)) c.answer-ending.result (sink_call g.E.Sink.written g.E.Sink.faults c.args.err.now c.finish.new.err) c.finish.result c.answer-ending.ensures.unread c.finish.ensures e

pub returns-clause-memory : goal.returns-clause-memory
returns-clause-memory g c x t e =
    says_front (answer_of c.args.words.now x) (request_of c.args.words.now) (shelf_call g.S.Shelf.faults g.S.Shelf.failed c.args.shelf.now c.answer-ending.new.shelf) (sink_call g.O.Sink.written g.O.Sink.faults c.args.out.now c.answer-ending.new.out) c.answer-ending.result (sink_call g.E.Sink.written g.E.Sink.faults c.args.err.now c.finish.new.err) c.finish.result (c.answer-ending.ensures.told x t) c.answer-ending.ensures.cause c.finish.ensures e

pub returns-clause-read_out : goal.returns-clause-read_out
returns-clause-read_out g c x t e =
    let left = g.S.Shelf.left c.answer-ending.new.shelf in
    subst (λ files. IsReadOut files left) t (holds_done (IsReadOut (g.S.Shelf.files c.args.shelf.now) left) c.answer-ending.result (sink_call g.E.Sink.written g.E.Sink.faults c.args.err.now c.finish.new.err) c.finish.result c.answer-ending.ensures.finished c.finish.ensures e)

pub returns-clause-usage : goal.returns-clause-usage
returns-clause-usage g c e =
    says_usage (request_of c.args.words.now) (shelf_call g.S.Shelf.faults g.S.Shelf.failed c.args.shelf.now c.answer-ending.new.shelf) (sink_call g.O.Sink.written g.O.Sink.faults c.args.out.now c.answer-ending.new.out) c.answer-ending.result (sink_call g.E.Sink.written g.E.Sink.faults c.args.err.now c.finish.new.err) c.finish.result c.answer-ending.ensures.cause c.finish.ensures e

pub returns-clause-accepted : goal.returns-clause-accepted
returns-clause-accepted g c x t e net cert w =
    certifies_done x c.args.words.now net cert (sink_call g.O.Sink.written g.O.Sink.faults c.args.out.now c.answer-ending.new.out) w (prints_all (answer_of c.args.words.now x) _ (sink_call g.O.Sink.written g.O.Sink.faults c.args.out.now c.answer-ending.new.out) c.answer-ending.result (sink_call g.E.Sink.written g.E.Sink.faults c.args.err.now c.finish.new.err) c.finish.result (c.answer-ending.ensures.told x t) c.finish.ensures e)

pub returns-clause-ran : goal.returns-clause-ran
returns-clause-ran g c x t e net rec w =
    runs_done x c.args.words.now net rec (sink_call g.O.Sink.written g.O.Sink.faults c.args.out.now c.answer-ending.new.out) w (prints_all (answer_of c.args.words.now x) _ (sink_call g.O.Sink.written g.O.Sink.faults c.args.out.now c.answer-ending.new.out) c.answer-ending.result (sink_call g.E.Sink.written g.E.Sink.faults c.args.err.now c.finish.new.err) c.finish.result (c.answer-ending.ensures.told x t) c.finish.ensures e)
