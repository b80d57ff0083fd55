use Rattle.std.proofs.Common.{drop}
use Rattle.ifx_search.specs.Positions.{position}
use Rattle.ifx_rules.proofs.LookUpHulls.{IsHullSoFar}
use Rattle.ifx_rules.proofs.look_up_ranges.position_range.Given as goal

abbrev pub invariant-loop-i : goal.invariant-loop-i
invariant-loop-i l = IsHullSoFar (position l.axis.points) l.axis.points l.x (drop l.i l.axis.points) l.range
