use Rattle.std.proofs.Common.{drop}
use Rattle.ifx_rules.specs.LookUpRules.{curve_over}
use Rattle.ifx_rules.proofs.LookUpHulls.{IsHullSoFar}
use Rattle.ifx_rules.proofs.look_up_ranges.curve_over_range.Given as goal

abbrev pub invariant-loop-i : goal.invariant-loop-i
invariant-loop-i l = IsHullSoFar (curve_over l.axis.points l.table.values) l.axis.points l.x (drop l.i l.axis.points) l.range
