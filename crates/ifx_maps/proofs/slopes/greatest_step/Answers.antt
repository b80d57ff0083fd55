use Rattle.std.proofs.Common.{◌∙◌, ap, arith, refl}
use Rattle.ifx_maps.specs.Slopes.{column_step, greatest_of}
use Rattle.ifx_maps.proofs.GreatestSteps.{greatest_of_next}
use Rattle.ifx_maps.proofs.slopes.greatest_step.Goals as goal

pub loop-ix-init : goal.loop-ix-init
unfolding greatest_of
loop-ix-init c = refl

pub loop-ix-preserved : goal.loop-ix-preserved
loop-ix-preserved c = greatest_of_next (column_step c.args.along c.args.m.now) c.loop-ix.ix c.loop-ix.greatest c.greatest_in_column.result c.max-greatest.result c.loop-ix.invariant c.greatest_in_column.ensures c.max-greatest.ensures

pub returns : goal.returns
returns c = c.loop-ix.invariant ∙ ap (greatest_of (column_step c.args.along c.args.m.now)) (omega (arith, c.loop-ix.auto.ix-end, c.loop-ix-test.false, c.columns-ix-end.ensures.columns))
