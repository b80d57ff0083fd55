use Rattle.std.proofs.Common.{◌≤◌}
use Rattle.fx_io.proofs.WriteLemmas.{Awaits}
use Rattle.fx_io.proofs.real.write_whole.Given as goal

-- the count has not fallen, and the rest is still to be written
abbrev pub invariant-loop : goal.invariant-loop
invariant-loop g l =
    (l.fn.faults ≤ l.faults)
    × Awaits (g.W.Write.contents l.fn.writer) (g.W.Write.contents l.writer) l.rest l.piece
