use Rattle.std.proofs.Common.{◌≡◌, [], take, drop}
use Rattle.net_model.specs.Faults.{outs_tested}
use Rattle.net_model.proofs.draft_checks.check_outs.Given as goal

-- the outputs from here on decide
abbrev pub invariant-loop-i : goal.invariant-loop-i
invariant-loop-i l = outs_tested l.count (take l.i l.outs) (drop l.i l.outs) ≡ outs_tested l.count [] l.outs
