use Rattle.mfx_rules.proofs.KeptRules.{operations_keep_rules}
use Rattle.mfx_rules.proofs.rule_laws.law_of_arithmetic.Goals as goal

pub returns : goal.returns
returns c = operations_keep_rules
