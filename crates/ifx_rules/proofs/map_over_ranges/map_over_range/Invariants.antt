use Rattle.std.proofs.Common.{drop}
use Rattle.ifx_rules.specs.MapRules.{map_over}
use Rattle.ifx_rules.proofs.MapHulls.{AreColumnsSoFar}
use Rattle.ifx_rules.proofs.map_over_ranges.map_over_range.Given as goal

abbrev pub invariant-loop-ix : goal.invariant-loop-ix
invariant-loop-ix l = AreColumnsSoFar (map_over l.ax.points l.ay.points l.m) l.ax.points l.ay.points l.x l.y (drop l.ix l.ax.points) l.range
