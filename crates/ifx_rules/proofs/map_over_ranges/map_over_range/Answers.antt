use Rattle.std.proofs.Common.{arith, refl}
use Rattle.ifx_search.specs.Axes.{point_at}
use Rattle.ifx_rules.specs.MapRules.{map_over}
use Rattle.ifx_rules.proofs.MapHulls.{columns_begun, columns_done, columns_more}
use Rattle.ifx_rules.proofs.map_over_ranges.map_over_range.Goals as goal

pub loop-ix-init : goal.loop-ix-init
loop-ix-init c =
    let points_x = c.args.ax.now.points in
    let points_y = c.args.ay.now.points in
    columns_begun (map_over points_x points_y c.args.m.now) points_x points_y c.args.x c.args.y c.column.result c.column-2.result c.joined-range.result c.requires.small_x
    (record { low = c.column.ensures.lo; high = c.column.ensures.hi }) (record { low = c.column-2.ensures.lo; high = c.column-2.ensures.hi }) c.joined-range.ensures.lo c.joined-range.ensures.hi

pub loop-ix-preserved : goal.loop-ix-preserved
loop-ix-preserved c =
    let points_x = c.args.ax.now.points in
    let points_y = c.args.ay.now.points in
    let i = c.loop-ix.ix in
    columns_more (map_over points_x points_y c.args.m.now) points_x points_y c.args.x c.args.y i (point_at points_x i) c.loop-ix.range c.with_column-range.result
    (omega (arith, c.loop-ix-test.true, c.len-ix-end.ensures.len)) refl c.with_column-range.ensures.lo c.with_column-range.ensures.hi c.loop-ix.invariant

pub returns-clause-lo : goal.returns-clause-lo
returns-clause-lo c =
    let points_x = c.args.ax.now.points in
    let points_y = c.args.ay.now.points in
    (columns_done (map_over points_x points_y c.args.m.now) points_x points_y c.args.x c.args.y c.loop-ix.ix c.loop-ix.range (omega (arith, c.loop-ix-test.false, c.len-ix-end.ensures.len)) c.loop-ix.invariant).low

pub returns-clause-hi : goal.returns-clause-hi
returns-clause-hi c =
    let points_x = c.args.ax.now.points in
    let points_y = c.args.ay.now.points in
    (columns_done (map_over points_x points_y c.args.m.now) points_x points_y c.args.x c.args.y c.loop-ix.ix c.loop-ix.range (omega (arith, c.loop-ix-test.false, c.len-ix-end.ensures.len)) c.loop-ix.invariant).high
