use Rattle.std.proofs.Common.{◌≡◌, ◌-◌}
use Rattle.ifx_maps.specs.Slopes.{column_slope, steepest_of}
use Rattle.ifx_maps.proofs.slopes.steepest.Given as goal

abbrev pub invariant-loop-ix : goal.invariant-loop-ix
invariant-loop-ix l = l.steepest ≡ steepest_of (column_slope l.along l.axis.points l.m) (l.ix - 1)
