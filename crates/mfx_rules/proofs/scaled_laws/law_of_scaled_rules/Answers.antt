use Rattle.mfx_rules.proofs.ScaledSoundnessProof.{scaled_rules_are_sound}
use Rattle.mfx_rules.proofs.scaled_laws.law_of_scaled_rules.Goals as goal

pub returns : goal.returns
returns c = scaled_rules_are_sound
