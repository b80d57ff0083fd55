use Rattle.std.proofs.Common.{◌∙◌, ap}
use Rattle.std.specs.Int.{w64}
use Rattle.std.proofs.lemmas.Int.{to_z-of_z}
use Rattle.ifx_curves.specs.Curves.{curve_value}
use Rattle.ifx_rules.specs.LookUpRules.{curve_over, rounded_down}
use Rattle.ifx_rules.proofs.look_up_ends.curve_over_at.Goals as goal

pub returns : goal.returns
unfolding curve_value
returns c =
    c.of_count.ensures
    ∙ to_z-of_z w64 c.call_int.result (record { sfits = c.call_int.type_inv })
    ∙ c.call_int.ensures.value
    ∙ ap (rounded_down (curve_over c.args.axis.now.points c.args.table.now.values)) (to_z-of_z w64 c.args.x c.ranges.x)
