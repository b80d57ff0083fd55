use Rattle.std.proofs.Common.{◌≡◌, take}
use Rattle.net_eval.specs.Steps.{handed_over}
use Rattle.net_eval.proofs.filling.hand_over.Given as goal

abbrev pub invariant-loop-k : goal.invariant-loop-k
invariant-loop-k l = l.states ≡ handed_over (take l.k l.handovers) l.values l.initial.states
