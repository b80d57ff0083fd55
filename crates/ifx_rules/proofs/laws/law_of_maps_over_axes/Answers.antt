use Rattle.ifx_rules.proofs.KeptRules.{maps_over_keep_rules}
use Rattle.ifx_rules.proofs.laws.law_of_maps_over_axes.Goals as goal

pub returns : goal.returns
returns c = maps_over_keep_rules
