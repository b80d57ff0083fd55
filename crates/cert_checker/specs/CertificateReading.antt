-- What reading a certificate's text gives.
use Rattle.std.specs.Prelude.{◌≡◌, ℕ, List, Result, Ok, Err}
use Rattle.part_rules.specs.declared.bounds.Bounds.{Bounds}
use Rattle.cert_checker.specs.declared.faults.CertFault.{CertFault}
use Rattle.cert_checker.specs.declared.faults.CertError.{CertError}
use Rattle.cert_checker.specs.declared.faults.CertError.TheVariants.{Fault, OutOfMemory}
use Rattle.cert_checker.specs.CertificateText.{certificate_of}
use Rattle.net_model.specs.Wires.{NetData}

-- entries, or a fault, are what is wanted, unless memory runs out
abbrev pub GivesEntries : Result (List Bounds) CertFault → Result (List Bounds) CertError → Type 0
GivesEntries wanted (Ok entries) = wanted ≡ Ok entries
GivesEntries wanted (Err (Fault fault)) = wanted ≡ Err fault
GivesEntries wanted (Err OutOfMemory) = Unit {0}

-- the certificate that the text says, or its first fault, unless memory runs out
abbrev pub ReadsCertificate : NetData → List ℕ → Result (List Bounds) CertError → Type 0
ReadsCertificate net text result = GivesEntries (certificate_of net text) result
