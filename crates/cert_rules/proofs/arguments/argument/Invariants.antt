use Rattle.std.proofs.Common.{◌≡◌, ◌-◌, length, slice_get}
use Rattle.net_model.specs.Wires.{parts_of}
use Rattle.cert_rules.specs.Arguments.{passing, read_by, reads_at}
use Rattle.cert_rules.proofs.arguments.argument.Given as goal

abbrev pub invariant-loop-k : goal.invariant-loop-k
invariant-loop-k l = slice_get (read_by l.net l.part.0) l.initial.i ≡ slice_get (passing (reads_at l.net l.part.0) l.k (length (parts_of l.net.wires) - l.k)) l.left
