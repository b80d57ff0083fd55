use Rattle.std.proofs.Common.{◌∙◌, ap₂}
use Rattle.std.specs.Int.{w64}
use Rattle.std.proofs.lemmas.Int.{to_z-of_z}
use Rattle.ifx_maps.specs.Surfaces.{map_value, surface}
use Rattle.ifx_rules.specs.MapRules.{both_rounded_down}
use Rattle.ifx_rules.proofs.map_values.map_at.Goals as goal

pub returns : goal.returns
unfolding map_value
returns c =
    c.of_count.ensures
    ∙ to_z-of_z w64 c.call.result (record { sfits = c.call.type_inv })
    ∙ c.call.ensures.value
    ∙ ap₂ (both_rounded_down (surface c.args.m.now)) (to_z-of_z w64 c.args.px c.ranges.px) (to_z-of_z w64 c.args.py c.ranges.py)
