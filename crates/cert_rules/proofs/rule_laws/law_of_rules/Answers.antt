-- The law is a lemma.
use Rattle.cert_rules.proofs.RuleSoundness.{rules_are_sound}
use Rattle.cert_rules.proofs.rule_laws.law_of_rules.Goals as goal

pub returns : goal.returns
returns c = rules_are_sound
