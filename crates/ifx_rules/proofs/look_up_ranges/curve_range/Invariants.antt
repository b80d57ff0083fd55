use Rattle.std.proofs.Common.{drop, length}
use Rattle.ifx_curves.specs.Curves.{curve}
use Rattle.ifx_rules.specs.LookUpRules.{whole_positions}
use Rattle.ifx_rules.proofs.LookUpHulls.{IsHullSoFar}
use Rattle.ifx_rules.proofs.look_up_ranges.curve_range.Given as goal

abbrev pub invariant-loop-i : goal.invariant-loop-i
invariant-loop-i l = IsHullSoFar (curve l.table.values) (whole_positions (length l.table.values)) l.position (drop l.i (whole_positions (length l.table.values))) l.range
