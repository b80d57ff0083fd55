-- The law by its lemma.
use Rattle.net_model.proofs.TestedDrafts.{tests_decide}
use Rattle.net_model.proofs.laws.law_of_drafts.Goals as goal

pub returns : goal.returns
returns c = tests_decide
