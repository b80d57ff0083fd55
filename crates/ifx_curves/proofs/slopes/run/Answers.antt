use Rattle.std.proofs.Common.{◌∙◌, ap, arith, suc}
use Rattle.ifx_search.specs.Axes.{point_at}
use Rattle.ifx_search.proofs.Points.{point_size}
use Rattle.ifx_search.proofs.Ways.{near_points, next, plain, way_of}
use Rattle.ifx_curves.proofs.slopes.run.Goals as goal

pub overflow_cast-result : goal.overflow_cast-result
overflow_cast-result c =
    let points = c.args.axis.now.points in
    let low = plain c.point-low.result (record { sfits = c.point-low.type_inv }) in
    let high = plain c.point-high.result (record { sfits = c.point-high.type_inv }) in
    let way = way_of c.point-high.result c.point-low.result _ c.abs_diff.result high low c.abs_diff.ensures c.point-low.ensures in
    let low_size = point_size c.args.axis.now.ty points c.args.i c.len.ensures.axis (omega (arith, c.requires)) in
    let high_size = point_size c.args.axis.now.ty points (suc c.args.i) c.len.ensures.axis c.requires in
    let small = near_points _ _ c.point-high.result _ low_size high_size (c.point-high.ensures ∙ ap (point_at points) (next c.args.i)) way in
    omega (arith, small)
