use Rattle.std.proofs.Common.{◌∙◌, ap}
use Rattle.std.specs.Int.{w64}
use Rattle.std.proofs.lemmas.Int.{to_z-of_z}
use Rattle.ifx_curves.specs.Curves.{curve, curve_value}
use Rattle.ifx_rules.specs.LookUpRules.{rounded_down}
use Rattle.ifx_rules.proofs.look_up_ends.curve_at.Goals as goal

pub returns : goal.returns
unfolding curve_value
returns c =
    c.of_count.ensures
    ∙ to_z-of_z w64 c.call.result (record { sfits = c.call.type_inv })
    ∙ c.call.ensures.value
    ∙ ap (rounded_down (curve c.args.table.now.values)) (to_z-of_z w64 c.args.position c.ranges.position)
