use Rattle.std.proofs.Common.{◌≡◌, drop}
use Rattle.net_model.specs.BlockForms.{in_ranges}
use Rattle.net_model.proofs.conditions.in_ranges.Given as goal

-- what is left decides
abbrev pub invariant-loop-i : goal.invariant-loop-i
invariant-loop-i l = in_ranges (drop l.i l.ranges) (drop l.i l.numbers) ≡ in_ranges l.ranges l.numbers
