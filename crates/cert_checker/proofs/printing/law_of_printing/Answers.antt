use Rattle.cert_checker.proofs.PrintedCertificates.{certificate_of-text}
use Rattle.cert_checker.proofs.printing.law_of_printing.Goals as goal

pub returns : goal.returns
returns c = certificate_of-text
