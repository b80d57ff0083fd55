use Rattle.std.proofs.Common.{◌/◌, length, arith}
use Rattle.std.proofs.lemmas.Grind.{common_steps}
use Rattle.fx_io.proofs.memory.MemSinkSink.write.Goals as goal

pub returns-then-does_next_fail-clause-bytes : goal.returns-then-does_next_fail-clause-bytes
returns-then-does_next_fail-clause-bytes c =
    (length c.args.piece.now / 2, omega arith, grind (arith, common_steps))
