use Rattle.mfx_rules.proofs.KeptRules.{forms_keep_rules}
use Rattle.mfx_rules.proofs.rule_laws.law_of_forms.Goals as goal

pub returns : goal.returns
returns c = forms_keep_rules
