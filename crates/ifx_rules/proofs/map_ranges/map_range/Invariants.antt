use Rattle.std.proofs.Common.{drop}
use Rattle.ifx_maps.specs.Surfaces.{surface}
use Rattle.ifx_rules.specs.LookUpRules.{whole_positions}
use Rattle.ifx_rules.proofs.MapHulls.{AreColumnsSoFar}
use Rattle.ifx_rules.proofs.map_ranges.map_range.Given as goal

abbrev pub invariant-loop-ix : goal.invariant-loop-ix
invariant-loop-ix l = AreColumnsSoFar (surface l.m) (whole_positions l.m.nx) (whole_positions l.m.ny) l.px l.py (drop l.ix (whole_positions l.m.nx)) l.range
