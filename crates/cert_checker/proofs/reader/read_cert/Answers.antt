use Rattle.cert_checker.proofs.CertificateLaws.{never_improper}
use Rattle.cert_checker.proofs.reader.read_cert.Goals as goal

pub unreachable-requires : goal.unreachable-requires
unreachable-requires c =
    never_improper _ _ _ _ c.in_ok-entries.ensures.reads c.in-Err.ensures.first
