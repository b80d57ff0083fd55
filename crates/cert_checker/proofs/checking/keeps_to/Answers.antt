use Rattle.cert_checker.proofs.Findings.{kept_none, kept_some}
use Rattle.cert_checker.proofs.checking.keeps_to.Goals as goal

pub returns-in-Some : goal.returns-in-Some
returns-in-Some c = kept_some _ _ _ _ c.rule.ensures c.in-Some.is c.holds_within.ensures

pub returns-in-None : goal.returns-in-None
returns-in-None c = kept_none _ c.rule.ensures c.in-None.is
