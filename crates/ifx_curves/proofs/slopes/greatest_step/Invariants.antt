use Rattle.std.proofs.Common.{◌≡◌}
use Rattle.ifx_curves.specs.Slopes.{greatest_of_steps}
use Rattle.ifx_curves.proofs.slopes.greatest_step.Given as goal

abbrev pub invariant-loop-i : goal.invariant-loop-i
invariant-loop-i l = l.greatest ≡ greatest_of_steps l.table.values l.i
