use Rattle.std.proofs.Common.{drop}
use Rattle.fx_fraction.specs.Fraction.{whole}
use Rattle.ifx_maps.specs.Surfaces.{surface}
use Rattle.ifx_rules.specs.LookUpRules.{whole_positions}
use Rattle.ifx_rules.proofs.LookUpHulls.{IsHullSoFar}
use Rattle.ifx_rules.proofs.map_ranges.column.Given as goal

abbrev pub invariant-loop-iy : goal.invariant-loop-iy
invariant-loop-iy l = IsHullSoFar (surface l.m (whole l.px)) (whole_positions l.m.ny) l.py (drop l.iy (whole_positions l.m.ny)) l.range
