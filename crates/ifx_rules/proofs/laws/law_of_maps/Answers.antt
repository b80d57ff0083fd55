use Rattle.ifx_rules.proofs.KeptRules.{maps_keep_rules}
use Rattle.ifx_rules.proofs.laws.law_of_maps.Goals as goal

pub returns : goal.returns
returns c = maps_keep_rules
