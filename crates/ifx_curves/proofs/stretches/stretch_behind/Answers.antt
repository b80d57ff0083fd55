use Rattle.std.proofs.Common.{◌≡◌, ◌∙◌, ap, arith, ◌-ℤ◌, suc}
use Rattle.std.specs.Prelude.{unsigned_abs}
use Rattle.std.proofs.lemmas.Int.{ints}
use Rattle.ifx_search.specs.Axes.{point_at}
use Rattle.ifx_search.proofs.Ways.{nearer, next, plain, way_of}
use Rattle.ifx_curves.proofs.PositionPoints.{is_position}
use Rattle.ifx_curves.proofs.stretches.stretch_behind.Goals as goal

pub invariant_of-result-clause-end : goal.invariant_of-result-clause-end
invariant_of-result-clause-end c =
    let x = plain c.args.x c.ranges.x in
    let low = plain c.point-low.result (record { sfits = c.point-low.type_inv }) in
    let high = plain c.point-high.result (record { sfits = c.point-high.type_inv }) in
    let way = way_of c.args.x c.point-low.result _ c.abs_diff.result x low c.abs_diff.ensures c.point-low.ensures in
    let span = way_of c.point-high.result c.point-low.result _ c.abs_diff-2.result high low c.abs_diff-2.ensures c.point-low.ensures in
    let above = c.point-high.ensures ∙ ap (point_at c.args.axis.now.points) (next c.args.segment) in
    let less = nearer c.args.x _ _ c.point-high.result _ _ c.requires.low c.requires.high above way span in
    omega (arith, less)

pub returns-clause-position : goal.returns-clause-position
returns-clause-position c =
    let points = c.args.axis.now.points in
    let i = c.args.segment in
    let x = plain c.args.x c.ranges.x in
    let low = plain c.point-low.result (record { sfits = c.point-low.type_inv }) in
    let high = plain c.point-high.result (record { sfits = c.point-high.type_inv }) in
    let way : c.abs_diff.result ≡ unsigned_abs (c.args.x -ℤ point_at points i) = way_of c.args.x c.point-low.result _ c.abs_diff.result x low c.abs_diff.ensures c.point-low.ensures in
    let above = c.point-high.ensures ∙ ap (point_at points) (next i) in
    let span : c.abs_diff-2.result ≡ unsigned_abs (point_at points (suc i) -ℤ point_at points i) = way_of c.point-high.result c.point-low.result _ c.abs_diff-2.result high low c.abs_diff-2.ensures c.point-low.ensures ∙ ap (λ h. unsigned_abs (h -ℤ point_at points i)) above in
    let strict = c.requires.high in
    rw (way, span) (is_position points i c.args.x c.requires.axis.rising c.requires.bound c.requires.low (omega (arith, ints, strict)))
