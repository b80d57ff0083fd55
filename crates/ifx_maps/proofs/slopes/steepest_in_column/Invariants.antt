use Rattle.std.proofs.Common.{◌≡◌, ◌-◌}
use Rattle.ifx_maps.specs.Slopes.{slope_from, steepest_of}
use Rattle.ifx_maps.proofs.slopes.steepest_in_column.Given as goal

abbrev pub invariant-loop-iy : goal.invariant-loop-iy
invariant-loop-iy l = l.steepest ≡ steepest_of (slope_from l.along l.axis.points l.m l.ix) (l.iy - 1)
