use Rattle.cert_checker.proofs.Findings.{allowed_not, allowed_when}
use Rattle.cert_checker.proofs.checking.is_allowed_at.Goals as goal

pub returns-then-allowed : goal.returns-then-allowed
returns-then-allowed c =
    allowed_when _ c.args.entries.now c.args.part.0 _ _ c.allowed.ensures c.if-allowed.true c.is_proper.ensures

pub returns-else-allowed : goal.returns-else-allowed
returns-else-allowed c = allowed_not _ c.args.entries.now c.args.part.0 _ c.allowed.ensures c.if-allowed.false
