use Rattle.ifx_rules.proofs.KeptRules.{curves_over_keep_rules}
use Rattle.ifx_rules.proofs.laws.law_of_curves_over_axes.Goals as goal

pub returns : goal.returns
returns c = curves_over_keep_rules
