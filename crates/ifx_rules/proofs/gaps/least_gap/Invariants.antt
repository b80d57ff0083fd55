use Rattle.std.proofs.Common.{◌≡◌, ◌-◌}
use Rattle.ifx_rules.specs.LookUpRules.{least_of_gaps}
use Rattle.ifx_rules.proofs.gaps.least_gap.Given as goal

abbrev pub invariant-loop-i : goal.invariant-loop-i
invariant-loop-i l = l.least ≡ least_of_gaps l.axis.points (l.i - 1)
