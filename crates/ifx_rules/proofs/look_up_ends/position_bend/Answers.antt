use Rattle.std.proofs.Common.{◌∙◌, arith, sym}
use Rattle.ifx_rules.proofs.Bends.{are_axis, position_there, whole_word}
use Rattle.ifx_rules.proofs.look_up_ends.position_bend.Goals as goal

pub returns-clause-value : goal.returns-clause-value
returns-clause-value c =
    let points = c.args.axis.now.points in
    let there = position_there points c.args.i (are_axis c.args.axis.now.ty points c.requires.axis) c.requires.bound in
    whole_word c.args.i c.from.result c.from.ensures (omega (arith, c.ranges.i.fits)) ∙ sym there
