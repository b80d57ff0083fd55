use Rattle.ifx_rules.proofs.KeptRules.{positions_keep_rules}
use Rattle.ifx_rules.proofs.laws.law_of_positions.Goals as goal

pub returns : goal.returns
returns c = positions_keep_rules
