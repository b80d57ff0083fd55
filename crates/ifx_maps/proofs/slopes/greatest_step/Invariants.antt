use Rattle.std.proofs.Common.{◌≡◌}
use Rattle.ifx_maps.specs.Slopes.{column_step, greatest_of}
use Rattle.ifx_maps.proofs.slopes.greatest_step.Given as goal

abbrev pub invariant-loop-ix : goal.invariant-loop-ix
invariant-loop-ix l = l.greatest ≡ greatest_of (column_step l.along l.m) l.ix
