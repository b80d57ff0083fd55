use Rattle.std.proofs.Common.{arith}
use Rattle.ifx_search.specs.Positions.{position}
use Rattle.ifx_rules.proofs.LookUpHulls.{IsBend, hull_begun, hull_done, hull_more}
use Rattle.ifx_rules.proofs.look_up_ranges.position_range.Goals as goal

pub loop-i-init : goal.loop-i-init
loop-i-init c = hull_begun (position c.args.axis.now.points) c.args.axis.now.points c.args.x c.position_at.result.number c.position_at-2.result.number c.hull-range.result c.requires.small c.position_at.ensures c.position_at-2.ensures c.hull-range.ensures.lo c.hull-range.ensures.hi

pub loop-i-preserved : goal.loop-i-preserved
loop-i-preserved c =
    let bend : IsBend (position c.args.axis.now.points) c.args.axis.now.points c.loop-i.i c.position_bend.result = record { place = c.position_bend.ensures.place; value_there = c.position_bend.ensures.value } in
    hull_more (position c.args.axis.now.points) c.args.axis.now.points c.args.x c.loop-i.i c.position_bend.result c.loop-i.range c.joined_inside-range.result (omega (arith, c.loop-i-test.true, c.len-i-end.ensures.len)) bend c.joined_inside-range.ensures.lo c.joined_inside-range.ensures.hi c.loop-i.invariant

pub returns-clause-lo : goal.returns-clause-lo
returns-clause-lo c = (hull_done (position c.args.axis.now.points) c.args.axis.now.points c.args.x c.loop-i.i c.loop-i.range (omega (arith, c.loop-i-test.false, c.len-i-end.ensures.len)) c.loop-i.invariant).low

pub returns-clause-hi : goal.returns-clause-hi
returns-clause-hi c = (hull_done (position c.args.axis.now.points) c.args.axis.now.points c.args.x c.loop-i.i c.loop-i.range (omega (arith, c.loop-i-test.false, c.len-i-end.ensures.len)) c.loop-i.invariant).high
