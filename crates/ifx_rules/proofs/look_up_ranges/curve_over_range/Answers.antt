use Rattle.std.proofs.Common.{arith}
use Rattle.ifx_rules.specs.LookUpRules.{curve_over}
use Rattle.ifx_rules.proofs.LookUpHulls.{IsBend, hull_begun, hull_done, hull_more}
use Rattle.ifx_rules.proofs.look_up_ranges.curve_over_range.Goals as goal

pub loop-i-init : goal.loop-i-init
loop-i-init c = hull_begun (curve_over c.args.axis.now.points c.args.table.now.values) c.args.axis.now.points c.args.x c.curve_over_at.result.number c.curve_over_at-2.result.number c.hull-range.result c.requires.small c.curve_over_at.ensures c.curve_over_at-2.ensures c.hull-range.ensures.lo c.hull-range.ensures.hi

pub loop-i-preserved : goal.loop-i-preserved
loop-i-preserved c =
    let bend : IsBend (curve_over c.args.axis.now.points c.args.table.now.values) c.args.axis.now.points c.loop-i.i c.curve_over_bend.result = record { place = c.curve_over_bend.ensures.place; value_there = c.curve_over_bend.ensures.value } in
    hull_more (curve_over c.args.axis.now.points c.args.table.now.values) c.args.axis.now.points c.args.x c.loop-i.i c.curve_over_bend.result c.loop-i.range c.joined_inside-range.result (omega (arith, c.loop-i-test.true, c.len-i-end.ensures.len)) bend c.joined_inside-range.ensures.lo c.joined_inside-range.ensures.hi c.loop-i.invariant

pub returns-clause-lo : goal.returns-clause-lo
returns-clause-lo c = (hull_done (curve_over c.args.axis.now.points c.args.table.now.values) c.args.axis.now.points c.args.x c.loop-i.i c.loop-i.range (omega (arith, c.loop-i-test.false, c.len-i-end.ensures.len)) c.loop-i.invariant).low

pub returns-clause-hi : goal.returns-clause-hi
returns-clause-hi c = (hull_done (curve_over c.args.axis.now.points c.args.table.now.values) c.args.axis.now.points c.args.x c.loop-i.i c.loop-i.range (omega (arith, c.loop-i-test.false, c.len-i-end.ensures.len)) c.loop-i.invariant).high
