use Rattle.std.proofs.Common.{◌∙◌, sym}
use Rattle.std.specs.Int.{w64}
use Rattle.std.proofs.lemmas.Int.{to_z-of_z}
use Rattle.ifx_rules.proofs.Bends.{curve_there}
use Rattle.ifx_rules.proofs.look_up_ends.curve_bend.Goals as goal

pub returns-clause-value : goal.returns-clause-value
returns-clause-value c =
    let there = curve_there c.args.table.now.values c.args.i c.requires.table.some c.requires.bound in
    to_z-of_z w64 c.value.result (record { sfits = c.value.type_inv }) ∙ c.value.ensures.value ∙ sym there
