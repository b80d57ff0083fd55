use Rattle.std.proofs.Common.{drop}
use Rattle.fx_fraction.specs.Fraction.{whole}
use Rattle.ifx_rules.specs.MapRules.{map_over}
use Rattle.ifx_rules.proofs.LookUpHulls.{IsHullSoFar}
use Rattle.ifx_rules.proofs.map_over_ranges.column.Given as goal

abbrev pub invariant-loop-iy : goal.invariant-loop-iy
invariant-loop-iy l = IsHullSoFar (map_over l.ax.points l.ay.points l.m (whole l.x)) l.ay.points l.y (drop l.iy l.ay.points) l.range
