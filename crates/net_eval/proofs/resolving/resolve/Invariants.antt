use Rattle.std.proofs.Common.{◌≡◌}
use Rattle.net_model.specs.Wires.{input_place}
use Rattle.net_eval.specs.Steps.{steps_of}
use Rattle.net_eval.proofs.resolving.resolve.Given as goal

abbrev pub invariant-loop-i : goal.invariant-loop-i
invariant-loop-i l = (l.inputs ≡ input_place l.net.wires l.i) × (l.steps.items ≡ steps_of l.net l.i)
