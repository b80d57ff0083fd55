-- The promise is a lemma.
use Rattle.cert_rules.proofs.TheoremProof.{certificates_hold}
use Rattle.cert_rules.proofs.promise.certificates_hold.Goals as goal

pub returns : goal.returns
returns c = certificates_hold
