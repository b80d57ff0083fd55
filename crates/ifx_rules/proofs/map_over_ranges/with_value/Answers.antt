use Rattle.std.proofs.Common.{◌∙◌, ap, ap₂, subst, sym}
use Rattle.std.specs.Int.{int_max, int_min, w64}
use Rattle.std.proofs.lemmas.Int.{to_z-of_z}
use Rattle.fx_core.specs.Types.{Holds}
use Rattle.ifx_search.specs.Axes.{point_at}
use Rattle.ifx_rules.specs.MapRules.{both_rounded_down, map_over}
use Rattle.ifx_rules.proofs.MapHulls.{is_there}
use Rattle.ifx_rules.proofs.map_over_ranges.with_value.Goals as goal

pub map_over_at-requires-clause-input_y : goal.map_over_at-requires-clause-input_y
map_over_at-requires-clause-input_y c =
    let there = is_there c.args.y (point_at c.args.ay.now.points c.args.iy) c.point-there.result c.is_inside.result (record { sfits = c.point-there.type_inv }) c.point-there.ensures c.is_inside.ensures c.if-is_inside.true in
    subst (Holds c.args.ay.now.ty) (sym there.is) (c.requires.axis.held c.args.iy c.requires.line)

pub returns-then-is_inside-clause-lo : goal.returns-then-is_inside-clause-lo
returns-then-is_inside-clause-lo c =
    let value = map_over c.args.ax.now.points c.args.ay.now.points c.args.m.now in
    let there = is_there c.args.y (point_at c.args.ay.now.points c.args.iy) c.point-there.result c.is_inside.result (record { sfits = c.point-there.type_inv }) c.point-there.ensures c.is_inside.ensures c.if-is_inside.true in
    rw there.inside (c.joined.ensures.lo ∙ ap (int_min c.args.range.lo) (c.at.ensures.lo ∙ c.map_over_at.ensures ∙ ap₂ (both_rounded_down value) (to_z-of_z w64 c.args.x c.ranges.x) there.is))

pub returns-then-is_inside-clause-hi : goal.returns-then-is_inside-clause-hi
returns-then-is_inside-clause-hi c =
    let value = map_over c.args.ax.now.points c.args.ay.now.points c.args.m.now in
    let there = is_there c.args.y (point_at c.args.ay.now.points c.args.iy) c.point-there.result c.is_inside.result (record { sfits = c.point-there.type_inv }) c.point-there.ensures c.is_inside.ensures c.if-is_inside.true in
    rw there.inside (c.joined.ensures.hi ∙ ap (int_max c.args.range.hi) (c.at.ensures.hi ∙ c.map_over_at.ensures ∙ ap₂ (both_rounded_down value) (to_z-of_z w64 c.args.x c.ranges.x) there.is))
