use Rattle.std.proofs.Common.{◌∙◌, ap₂}
use Rattle.std.specs.Int.{w64}
use Rattle.std.proofs.lemmas.Int.{to_z-of_z}
use Rattle.ifx_maps.specs.Surfaces.{map_value}
use Rattle.ifx_rules.specs.MapRules.{both_rounded_down, map_over}
use Rattle.ifx_rules.proofs.map_values.map_over_at.Goals as goal

pub returns : goal.returns
unfolding map_value
returns c =
    c.of_count.ensures
    ∙ to_z-of_z w64 c.call_int.result (record { sfits = c.call_int.type_inv })
    ∙ c.call_int.ensures.value
    ∙ ap₂ (both_rounded_down (map_over c.args.ax.now.points c.args.ay.now.points c.args.m.now)) (to_z-of_z w64 c.args.x c.ranges.x) (to_z-of_z w64 c.args.y c.ranges.y)
