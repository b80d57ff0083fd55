-- The law is a lemma.
use Rattle.cert_rules.proofs.RuleSoundness.{rules_read_their_arguments}
use Rattle.cert_rules.proofs.arguments.rules_read_their_arguments.Goals as goal

pub returns : goal.returns
returns c = rules_read_their_arguments
