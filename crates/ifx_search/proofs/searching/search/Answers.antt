use Rattle.std.proofs.Common.{◌∙◌, ◌+◌, ◌*◌, ◌/◌, ap, ap₂, arith, pos, suc, sym, ◌-◌, ◌-ℤ◌}
use Rattle.std.specs.Prelude.{unsigned_abs}
use Rattle.std.proofs.lemmas.Int.{ints}
use Rattle.ifx_search.specs.Axes.{point_at}
use Rattle.ifx_search.proofs.Points.{point_size}
use Rattle.ifx_search.proofs.Segments.{value_below_first, value_between, value_from_last}
use Rattle.ifx_search.proofs.Ways.{near_points, nearer, next, plain, way_of}
use Rattle.ifx_search.proofs.searching.search.Goals as goal

pub returns-then-x-point : goal.returns-then-x-point
returns-then-x-point c = sym (value_below_first c.args.axis.now.points c.args.x (omega (arith, ints, c.if-x-point.true, c.point.ensures)))

pub returns-then-point-x : goal.returns-then-point-x
returns-then-point-x c =
    let axis = c.len-last.ensures.axis in
    let last = c.len-last.result - 1 in
    ap pos (omega arith)
    ∙ sym (value_from_last c.args.axis.now.points c.args.x last axis.rising (omega (arith, c.len-last.ensures.len, axis.some)) (omega (arith, ints, c.if-point-x.true, c.point-2.ensures)))

pub ratio-requires-clause-inside : goal.ratio-requires-clause-inside
ratio-requires-clause-inside c =
    let x = plain c.args.x c.ranges.x in
    let low = plain c.point-low.result (record { sfits = c.point-low.type_inv }) in
    let high = plain c.point-high.result (record { sfits = c.point-high.type_inv }) in
    let way = way_of c.args.x c.point-low.result _ c.abs_diff.result x low c.abs_diff.ensures c.point-low.ensures in
    let whole_way = way_of c.point-high.result c.point-low.result _ c.abs_diff-2.result high low c.abs_diff-2.ensures c.point-low.ensures in
    let above = c.point-high.ensures ∙ ap (point_at c.args.axis.now.points) (next c.point_below-below.result) in
    nearer c.args.x _ _ c.point-high.result _ _ (rw x at c.point_below-below.ensures.low) (rw x at c.point_below-below.ensures.high) above way whole_way

pub ratio-requires-clause-small : goal.ratio-requires-clause-small
ratio-requires-clause-small c =
    let axis = c.len-last.ensures.axis in
    let points = c.args.axis.now.points in
    let below = c.point_below-below.result in
    let low = plain c.point-low.result (record { sfits = c.point-low.type_inv }) in
    let high = plain c.point-high.result (record { sfits = c.point-high.type_inv }) in
    let whole_way = way_of c.point-high.result c.point-low.result _ c.abs_diff-2.result high low c.abs_diff-2.ensures c.point-low.ensures in
    let low_size = point_size c.args.axis.now.ty points below axis (omega (arith, c.point_below-below.ensures.bound)) in
    let high_size = point_size c.args.axis.now.ty points (suc below) axis c.point_below-below.ensures.bound in
    near_points _ _ c.point-high.result _ low_size high_size (c.point-high.ensures ∙ ap (point_at points) (next below)) whole_way

pub returns : goal.returns
returns c =
    let axis = c.len-last.ensures.axis in
    let points = c.args.axis.now.points in
    let below = c.point_below-below.result in
    let x = plain c.args.x c.ranges.x in
    let low = plain c.point-low.result (record { sfits = c.point-low.type_inv }) in
    let high = plain c.point-high.result (record { sfits = c.point-high.type_inv }) in
    let way = way_of c.args.x c.point-low.result _ c.abs_diff.result x low c.abs_diff.ensures c.point-low.ensures in
    let whole_way = way_of c.point-high.result c.point-low.result _ c.abs_diff-2.result high low c.abs_diff-2.ensures c.point-low.ensures in
    ap (λ r. pos (below * 65536 + r)) (c.ratio.ensures ∙ ap₂ (λ w l. w * 65536 / l) way (whole_way ∙ ap (λ h. unsigned_abs (h -ℤ point_at points below)) (c.point-high.ensures ∙ ap (point_at points) (next below))))
    ∙ sym (value_between points c.args.x below axis.rising c.point_below-below.ensures.bound (rw x at c.point_below-below.ensures.low) (rw x at c.point_below-below.ensures.high))
