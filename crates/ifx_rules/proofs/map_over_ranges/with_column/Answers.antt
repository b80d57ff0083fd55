use Rattle.std.proofs.Common.{◌∙◌, ap, subst, sym}
use Rattle.std.specs.Int.{int_max, int_min}
use Rattle.fx_core.specs.Types.{Holds}
use Rattle.ifx_search.specs.Axes.{point_at}
use Rattle.ifx_rules.specs.MapRules.{map_over}
use Rattle.ifx_rules.proofs.MapHulls.{column_at, is_there}
use Rattle.ifx_rules.proofs.map_over_ranges.with_column.Goals as goal

pub column-requires-clause-input : goal.column-requires-clause-input
column-requires-clause-input c =
    let there = is_there c.args.x (point_at c.args.ax.now.points c.args.ix) c.point-there.result c.is_inside.result (record { sfits = c.point-there.type_inv }) c.point-there.ensures c.is_inside.ensures c.if-is_inside.true in
    subst (Holds c.args.ax.now.ty) (sym there.is) (c.requires.axis.held c.args.ix c.requires.column)

pub returns-then-is_inside-clause-lo : goal.returns-then-is_inside-clause-lo
returns-then-is_inside-clause-lo c =
    let value = map_over c.args.ax.now.points c.args.ay.now.points c.args.m.now in
    let there = is_there c.args.x (point_at c.args.ax.now.points c.args.ix) c.point-there.result c.is_inside.result (record { sfits = c.point-there.type_inv }) c.point-there.ensures c.is_inside.ensures c.if-is_inside.true in
    rw there.inside (c.joined.ensures.lo ∙ ap (int_min c.args.range.lo) (c.column.ensures.lo ∙ ap (λ z. (column_at value c.args.ay.now.points c.args.y z).lo) there.is))

pub returns-then-is_inside-clause-hi : goal.returns-then-is_inside-clause-hi
returns-then-is_inside-clause-hi c =
    let value = map_over c.args.ax.now.points c.args.ay.now.points c.args.m.now in
    let there = is_there c.args.x (point_at c.args.ax.now.points c.args.ix) c.point-there.result c.is_inside.result (record { sfits = c.point-there.type_inv }) c.point-there.ensures c.is_inside.ensures c.if-is_inside.true in
    rw there.inside (c.joined.ensures.hi ∙ ap (int_max c.args.range.hi) (c.column.ensures.hi ∙ ap (λ z. (column_at value c.args.ay.now.points c.args.y z).hi) there.is))
