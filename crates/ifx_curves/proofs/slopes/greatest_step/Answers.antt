use Rattle.std.proofs.Common.{refl}
use Rattle.ifx_curves.specs.Slopes.{greatest_of_steps}
use Rattle.ifx_curves.proofs.GreatestSteps.{greatest_of_next}
use Rattle.ifx_curves.proofs.slopes.greatest_step.Goals as goal

pub loop-i-init : goal.loop-i-init
unfolding greatest_of_steps
loop-i-init c = refl

pub loop-i-preserved : goal.loop-i-preserved
loop-i-preserved c = greatest_of_next c.args.table.now.values c.loop-i.i c.loop-i.greatest c.step.result c.max-greatest.result c.loop-i.invariant c.step.ensures c.max-greatest.ensures
