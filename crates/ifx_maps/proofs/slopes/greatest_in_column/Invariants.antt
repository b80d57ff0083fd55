use Rattle.std.proofs.Common.{◌≡◌}
use Rattle.ifx_maps.specs.Slopes.{greatest_of, step_from}
use Rattle.ifx_maps.proofs.slopes.greatest_in_column.Given as goal

abbrev pub invariant-loop-iy : goal.invariant-loop-iy
invariant-loop-iy l = l.greatest ≡ greatest_of (step_from l.along l.m l.ix) l.iy
