use Rattle.mfx_rules.proofs.ArithSoundnessProof.{arith_rules_are_sound}
use Rattle.mfx_rules.proofs.arith_laws.law_of_arith_rules.Goals as goal

pub returns : goal.returns
returns c = arith_rules_are_sound
