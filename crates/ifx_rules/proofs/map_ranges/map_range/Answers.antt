use Rattle.std.proofs.Common.{◌*◌, arith, pos, sym}
use Rattle.ifx_maps.specs.Surfaces.{surface}
use Rattle.ifx_rules.specs.LookUpRules.{whole_positions}
use Rattle.ifx_rules.proofs.Bends.{length-whole_positions, whole_position}
use Rattle.ifx_rules.proofs.MapHulls.{columns_begun, columns_done, columns_more}
use Rattle.ifx_rules.proofs.map_ranges.map_range.Goals as goal

pub loop-ix-init : goal.loop-ix-init
loop-ix-init c =
    let m = c.args.m.now in
    columns_begun (surface m) (whole_positions m.nx) (whole_positions m.ny) c.args.px c.args.py c.column.result c.column-2.result c.joined-range.result c.requires.small_x
    (record { low = c.column.ensures.lo; high = c.column.ensures.hi }) (record { low = c.column-2.ensures.lo; high = c.column-2.ensures.hi }) c.joined-range.ensures.lo c.joined-range.ensures.hi

pub loop-ix-preserved : goal.loop-ix-preserved
loop-ix-preserved c =
    let m = c.args.m.now in
    let n = m.nx in
    let i = c.loop-ix.ix in
    columns_more (surface m) (whole_positions n) (whole_positions m.ny) c.args.px c.args.py i (pos (65536 * i)) c.loop-ix.range c.with_column-range.result
    (omega (arith, c.loop-ix-test.true, c.nx-ix-end.ensures.columns, length-whole_positions n)) (sym (whole_position n i (omega (arith, c.loop-ix-test.true, c.nx-ix-end.ensures.columns))))
    c.with_column-range.ensures.lo c.with_column-range.ensures.hi c.loop-ix.invariant

pub returns-clause-lo : goal.returns-clause-lo
returns-clause-lo c =
    let m = c.args.m.now in
    (columns_done (surface m) (whole_positions m.nx) (whole_positions m.ny) c.args.px c.args.py c.loop-ix.ix c.loop-ix.range (omega (arith, c.loop-ix-test.false, c.nx-ix-end.ensures.columns, length-whole_positions m.nx)) c.loop-ix.invariant).low

pub returns-clause-hi : goal.returns-clause-hi
returns-clause-hi c =
    let m = c.args.m.now in
    (columns_done (surface m) (whole_positions m.nx) (whole_positions m.ny) c.args.px c.args.py c.loop-ix.ix c.loop-ix.range (omega (arith, c.loop-ix-test.false, c.nx-ix-end.ensures.columns, length-whole_positions m.nx)) c.loop-ix.invariant).high
