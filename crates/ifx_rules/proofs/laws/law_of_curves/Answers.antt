use Rattle.ifx_rules.proofs.KeptRules.{curves_keep_rules}
use Rattle.ifx_rules.proofs.laws.law_of_curves.Goals as goal

pub returns : goal.returns
returns c = curves_keep_rules
