use Rattle.std.proofs.Common.{arith, ap, sym, ◌∙◌, length}
use Rattle.ifx_curves.specs.Curves.{curve}
use Rattle.ifx_rules.specs.LookUpRules.{rounded_down, whole_positions}
use Rattle.ifx_rules.proofs.Bends.{length-whole_positions, whole_position}
use Rattle.ifx_rules.proofs.LookUpHulls.{IsBend, hull_begun, hull_done, hull_more}
use Rattle.ifx_rules.proofs.look_up_ranges.curve_range.Goals as goal

pub loop-i-init : goal.loop-i-init
loop-i-init c =
    let values = c.args.table.now.values in
    hull_begun (curve values) (whole_positions (length values)) c.args.position c.curve_at.result.number c.curve_at-2.result.number c.hull-range.result c.requires.small c.curve_at.ensures c.curve_at-2.ensures c.hull-range.ensures.lo c.hull-range.ensures.hi

pub loop-i-preserved : goal.loop-i-preserved
loop-i-preserved c =
    let values = c.args.table.now.values in
    let n = length values in
    let there = sym (whole_position n c.loop-i.i (omega (arith, c.loop-i-test.true, c.len-i-end.ensures.len))) in
    let bend : IsBend (curve values) (whole_positions n) c.loop-i.i c.curve_bend.result = record { place = c.curve_bend.ensures.place ∙ there; value_there = c.curve_bend.ensures.value ∙ ap (rounded_down (curve values)) there } in
    hull_more (curve values) (whole_positions n) c.args.position c.loop-i.i c.curve_bend.result c.loop-i.range c.joined_inside-range.result (omega (arith, c.loop-i-test.true, c.len-i-end.ensures.len, length-whole_positions n)) bend c.joined_inside-range.ensures.lo c.joined_inside-range.ensures.hi c.loop-i.invariant

pub returns-clause-lo : goal.returns-clause-lo
returns-clause-lo c =
    let values = c.args.table.now.values in
    (hull_done (curve values) (whole_positions (length values)) c.args.position c.loop-i.i c.loop-i.range (omega (arith, c.loop-i-test.false, c.len-i-end.ensures.len, length-whole_positions (length values))) c.loop-i.invariant).low

pub returns-clause-hi : goal.returns-clause-hi
returns-clause-hi c =
    let values = c.args.table.now.values in
    (hull_done (curve values) (whole_positions (length values)) c.args.position c.loop-i.i c.loop-i.range (omega (arith, c.loop-i-test.false, c.len-i-end.ensures.len, length-whole_positions (length values))) c.loop-i.invariant).high
