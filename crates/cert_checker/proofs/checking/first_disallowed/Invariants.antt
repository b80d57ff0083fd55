use Rattle.std.proofs.Common.{◌≡◌, ◌-◌, length}
use Rattle.net_model.specs.Wires.{parts_of}
use Rattle.cert_rules.specs.Acceptance.{first_failing, is_allowed_at}
use Rattle.cert_checker.proofs.checking.first_disallowed.Given as goal

abbrev pub invariant-loop-k : goal.invariant-loop-k
invariant-loop-k l = first_failing (is_allowed_at l.net l.entries) 0 (length (parts_of l.net.wires)) ≡ first_failing (is_allowed_at l.net l.entries) l.k (length (parts_of l.net.wires) - l.k)
