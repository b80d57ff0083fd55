use Rattle.std.proofs.Common.{◌≡◌}
use Rattle.net_eval.specs.Steps.{handovers_of}
use Rattle.net_eval.proofs.resolving.find_handovers.Given as goal

abbrev pub invariant-loop-i : goal.invariant-loop-i
invariant-loop-i l = l.handovers.items ≡ handovers_of l.net l.i
