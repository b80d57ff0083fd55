use Rattle.std.proofs.Common.{◌≡◌, ◌∙◌, ◌+◌, ◌-◌, ap, arith}
use Rattle.ifx_maps.specs.Slopes.{column_slope, steepest_of}
use Rattle.ifx_maps.proofs.GreatestSteps.{steepest_of_next}
use Rattle.ifx_maps.proofs.slopes.steepest.Goals as goal

pub loop-ix-init : goal.loop-ix-init
unfolding steepest_of
loop-ix-init c = c.steepest_in_column-steepest.ensures

pub loop-ix-preserved : goal.loop-ix-preserved
loop-ix-preserved c =
    let slope = column_slope c.args.along c.args.axis.now.points c.args.m.now in
    let place : c.loop-ix.ix ≡ c.loop-ix.ix - 1 + 1 = omega (arith, c.loop-ix.auto.ix) in
    steepest_of_next slope (c.loop-ix.ix - 1) c.loop-ix.steepest c.steepest_in_column.result c.steeper-steepest.result c.loop-ix.invariant (c.steepest_in_column.ensures ∙ ap slope place) c.steeper-steepest.ensures
    ∙ ap (steepest_of slope) (omega (arith, c.loop-ix.auto.ix))

pub returns : goal.returns
returns c =
    let slope = column_slope c.args.along c.args.axis.now.points c.args.m.now in
    c.loop-ix.invariant ∙ ap (steepest_of slope) (omega (arith, c.loop-ix.auto.ix-end c.columns-columns.ensures.some, c.loop-ix-test.false, c.columns-columns.ensures.columns))
