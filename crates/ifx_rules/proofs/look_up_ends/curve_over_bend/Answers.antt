use Rattle.std.proofs.Common.{◌∙◌, sym}
use Rattle.std.specs.Int.{w64}
use Rattle.std.proofs.lemmas.Int.{to_z-of_z}
use Rattle.ifx_rules.proofs.Bends.{are_axis, curve_over_there}
use Rattle.ifx_rules.proofs.look_up_ends.curve_over_bend.Goals as goal

pub returns-clause-value : goal.returns-clause-value
returns-clause-value c =
    let points = c.args.axis.now.points in
    let there = curve_over_there points c.args.table.now.values c.args.i (are_axis c.args.axis.now.ty points c.requires.axis) c.requires.lengths c.requires.bound in
    to_z-of_z w64 c.value.result (record { sfits = c.value.type_inv }) ∙ c.value.ensures.value ∙ sym there
