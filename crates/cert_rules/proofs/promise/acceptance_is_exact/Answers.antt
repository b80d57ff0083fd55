-- Each law is a lemma.
use Rattle.cert_rules.proofs.AcceptanceLaws.{accepts_exactly, all_are_smooth}
use Rattle.cert_rules.proofs.promise.acceptance_is_exact.Goals as goal

pub returns-clause-exact : goal.returns-clause-exact
returns-clause-exact c = accepts_exactly

pub returns-clause-smooth : goal.returns-clause-smooth
returns-clause-smooth c = all_are_smooth
