use Rattle.std.proofs.Common.{◌≡◌, map, take}
use Rattle.cert_rules.specs.GivenBounds.{value_part}
use Rattle.cert_rules.proofs.arguments.arguments_read.Given as goal

-- the values of the wires so far
abbrev pub invariant-loop-wire : goal.invariant-loop-wire
invariant-loop-wire l = l.parts ≡ map (λ w. value_part w.0) (take l.wire-index l.wire-items)
