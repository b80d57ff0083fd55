use Rattle.std.proofs.Common.{◌∙◌}
use Rattle.bench_core.specs.Calls.{shelf_call}
use Rattle.bench_core.proofs.EndingLaws.{second_causes, stops_at_network, stops_at_other}
use Rattle.bench_core.proofs.steps.network_and_bytes.Goals as goal

pub returns-in-Err-read_file-clause-stopped : goal.returns-in-Err-read_file-clause-stopped
returns-in-Err-read_file-clause-stopped g c x e =
    stops_at_other x c.args.net.now c.args.other.now c.args.limit c.in-Ok.network (shelf_call g.S.Shelf.faults g.S.Shelf.failed c.network_at.new.shelf c.read_file.new.shelf) c.in-Err-read_file.ending (c.in-Ok.ensures.told x e) (c.in-Err-read_file.ensures.told x (c.in-Ok.ensures.files ∙ e)) c.in-Err-read_file.ensures.cause

pub returns-in-Err-read_file-clause-cause : goal.returns-in-Err-read_file-clause-cause
returns-in-Err-read_file-clause-cause g c out =
    second_causes c.args.net.now c.args.other.now (g.S.Shelf.faults c.args.shelf.now) (g.S.Shelf.faults c.network_at.new.shelf) (g.S.Shelf.faults c.read_file.new.shelf) (g.S.Shelf.failed c.read_file.new.shelf) out c.in-Err-read_file.ending c.in-Ok.ensures.cause c.in-Err-read_file.ensures.cause

pub returns-in-Err-clause-stopped : goal.returns-in-Err-clause-stopped
returns-in-Err-clause-stopped g c x e =
    stops_at_network x c.args.net.now c.args.other.now c.args.limit (shelf_call g.S.Shelf.faults g.S.Shelf.failed c.args.shelf.now c.network_at.new.shelf) c.in-Err.ending (c.in-Err.ensures.told x e) c.in-Err.ensures.cause
