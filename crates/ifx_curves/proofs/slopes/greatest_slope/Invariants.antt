use Rattle.std.proofs.Common.{◌≡◌, ◌-◌}
use Rattle.ifx_curves.specs.Slopes.{steepest_of}
use Rattle.ifx_curves.proofs.slopes.greatest_slope.Given as goal

abbrev pub invariant-loop-i : goal.invariant-loop-i
invariant-loop-i l = l.steepest ≡ steepest_of l.axis.points l.table.values (l.i - 1)
