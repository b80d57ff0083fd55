use Rattle.std.proofs.Common.{◌≡◌}
use Rattle.net_eval.specs.States.{starts_of}
use Rattle.net_eval.proofs.states.start.Given as goal

abbrev pub invariant-loop-i : goal.invariant-loop-i
invariant-loop-i l = l.states.items ≡ starts_of l.net l.i
