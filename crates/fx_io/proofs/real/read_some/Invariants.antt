use Rattle.std.proofs.Common.{◌≤◌}
use Rattle.std.specs.Io.KnownBytes.{Keeps}
use Rattle.fx_io.proofs.real.read_some.Given as goal

-- the count has not fallen, and nothing was taken yet
abbrev pub invariant-loop : goal.invariant-loop
invariant-loop g l =
    (l.fn.faults ≤ l.faults)
    × Keeps (g.F.Read.remaining l.fn.file) (g.F.Read.remaining l.file)
