use Rattle.std.proofs.Common.{◌≡◌, ◌∙◌, ◌+◌, ◌-◌, ap, arith}
use Rattle.ifx_curves.specs.Slopes.{slope_at, steepest_of}
use Rattle.ifx_curves.proofs.GreatestSteps.{steepest_of_next}
use Rattle.ifx_curves.proofs.slopes.greatest_slope.Goals as goal

pub loop-i-init : goal.loop-i-init
unfolding steepest_of
loop-i-init c = c.segment_slope-steepest.ensures

pub loop-i-preserved : goal.loop-i-preserved
loop-i-preserved c =
    let points = c.args.axis.now.points in
    let values = c.args.table.now.values in
    let i : c.loop-i.i ≡ c.loop-i.i - 1 + 1 = omega (arith, c.loop-i.auto.i) in
    steepest_of_next points values (c.loop-i.i - 1) c.loop-i.steepest c.segment_slope.result c.steeper-steepest.result c.loop-i.invariant (c.segment_slope.ensures ∙ ap (slope_at points values) i) c.steeper-steepest.ensures
    ∙ ap (steepest_of points values) (omega (arith, c.loop-i.auto.i))
