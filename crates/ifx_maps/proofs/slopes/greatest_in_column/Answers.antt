use Rattle.std.proofs.Common.{◌∙◌, ap, arith, refl}
use Rattle.ifx_maps.specs.Slopes.{greatest_of, step_from}
use Rattle.ifx_maps.proofs.GreatestSteps.{greatest_of_next}
use Rattle.ifx_maps.proofs.slopes.greatest_in_column.Goals as goal

pub loop-iy-init : goal.loop-iy-init
unfolding greatest_of
loop-iy-init c = refl

pub loop-iy-preserved : goal.loop-iy-preserved
loop-iy-preserved c = greatest_of_next (step_from c.args.along c.args.m.now c.args.ix) c.loop-iy.iy c.loop-iy.greatest c.step.result c.max-greatest.result c.loop-iy.invariant c.step.ensures c.max-greatest.ensures

pub returns : goal.returns
returns c = c.loop-iy.invariant ∙ ap (greatest_of (step_from c.args.along c.args.m.now c.args.ix)) (omega (arith, c.loop-iy.auto.iy-end, c.loop-iy-test.false, c.lines-iy-end.ensures.lines))
