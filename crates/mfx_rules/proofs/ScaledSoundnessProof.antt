-- The rule of each form with binary points is sound: one lemma for each, and this is the join.
use Rattle.fx_routines.specs.declared.operation.ScaledOp.TheVariants.{Convert, Add, Sub, AbsDiff, Mul, Div}
use Rattle.mfx_rules.specs.ScaledSoundness.{ScaledRulesAreSound}
use Rattle.mfx_rules.proofs.ScaledRoutines.{convert_keeps, add_keeps, sub_keeps, abs_diff_keeps, mul_keeps, div_keeps}

pub scaled_rules_are_sound : ScaledRulesAreSound
scaled_rules_are_sound Convert points given m e divides w = convert_keeps points given m e w
scaled_rules_are_sound Add points given m e divides w = add_keeps points given m e w
scaled_rules_are_sound Sub points given m e divides w = sub_keeps points given m e w
scaled_rules_are_sound AbsDiff points given m e divides w = abs_diff_keeps points given m e w
scaled_rules_are_sound Mul points given m e divides w = mul_keeps points given m e w
scaled_rules_are_sound Div points given m e divides w = div_keeps points given m e divides w
