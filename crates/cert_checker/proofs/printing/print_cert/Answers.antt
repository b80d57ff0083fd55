use Rattle.std.proofs.Common.{ap, ◌∙◌}
use Rattle.cert_checker.specs.CertificateText.{certificate_of}
use Rattle.cert_checker.proofs.PrintedEntries.{text_joined}
use Rattle.cert_checker.proofs.PrintedCertificates.{certificate_of-text}
use Rattle.cert_checker.proofs.printing.print_cert.Goals as goal

pub returns-clause-text : goal.returns-clause-text
returns-clause-text c =
    text_joined c.args.net.now c.args.cert.now _ _ c.in_ok-text.ensures.items (rw c.bounds.ensures.entries at c.in_ok-push_entries.ensures.text)

pub returns-clause-read : goal.returns-clause-read
returns-clause-read c =
    ap (certificate_of c.args.net.now) (returns-clause-text c)
    ∙ certificate_of-text c.args.net.now c.args.cert.now c.push_entries.ensures.valid c.requires c.bounds.ensures.proper
