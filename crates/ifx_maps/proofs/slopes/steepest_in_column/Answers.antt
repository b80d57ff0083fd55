use Rattle.std.proofs.Common.{◌≡◌, ◌∙◌, ◌+◌, ◌-◌, ap, arith}
use Rattle.ifx_maps.specs.Slopes.{slope_from, steepest_of}
use Rattle.ifx_maps.proofs.GreatestSteps.{steepest_of_next}
use Rattle.ifx_maps.proofs.slopes.steepest_in_column.Goals as goal

pub loop-iy-init : goal.loop-iy-init
unfolding steepest_of
loop-iy-init c = c.slope-steepest.ensures

pub loop-iy-preserved : goal.loop-iy-preserved
loop-iy-preserved c =
    let slope = slope_from c.args.along c.args.axis.now.points c.args.m.now c.args.ix in
    let place : c.loop-iy.iy ≡ c.loop-iy.iy - 1 + 1 = omega (arith, c.loop-iy.auto.iy) in
    steepest_of_next slope (c.loop-iy.iy - 1) c.loop-iy.steepest c.slope.result c.steeper-steepest.result c.loop-iy.invariant (c.slope.ensures ∙ ap slope place) c.steeper-steepest.ensures
    ∙ ap (steepest_of slope) (omega (arith, c.loop-iy.auto.iy))

pub returns : goal.returns
returns c =
    let slope = slope_from c.args.along c.args.axis.now.points c.args.m.now c.args.ix in
    c.loop-iy.invariant ∙ ap (steepest_of slope) (omega (arith, c.loop-iy.auto.iy-end c.lines-lines.ensures.some, c.loop-iy-test.false, c.lines-lines.ensures.lines))
