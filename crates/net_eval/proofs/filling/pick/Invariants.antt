use Rattle.std.proofs.Common.{◌≡◌, map, take}
use Rattle.net_eval.specs.Steps.{value_at}
use Rattle.net_eval.proofs.filling.pick.Given as goal

abbrev pub invariant-loop-i : goal.invariant-loop-i
invariant-loop-i l = take l.i l.out ≡ map (λ o. value_at l.values o.0) (take l.i l.outs)
