use Rattle.std.proofs.Common.{◌≡◌, ◌≤◌, ◌+◌, ◌*◌, drop}
use Rattle.net_model.specs.Wires.{window_sum}
use Rattle.net_model.proofs.draft_checks.window_sum.Given as goal

-- what is left is what is to be added, and each wire above added a number of 16 bits
abbrev pub invariant-loop-i : goal.invariant-loop-i
invariant-loop-i l = (l.rows + window_sum (drop l.i l.wires) ≡ window_sum l.wires) × (l.rows ≤ 65535 * l.i)
