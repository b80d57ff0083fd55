-- The lines that are said of faults of texts, a network's and a certificate's: the file, the line in it, and what is wrong
-- there.
use Rattle.std.specs.Prelude.{ℕ, List, [], ◌∷◌, ◌++◌, codes, decimal}
use Rattle.net_model.specs.declared.network.NetKind.{NetKind}
use Rattle.net_model.specs.declared.network.NetKind.TheVariants as net
use Rattle.net_text.specs.declared.reader.NetFault.{NetFault}
use Rattle.cert_checker.specs.declared.faults.CertKind.{CertKind}
use Rattle.cert_checker.specs.declared.faults.CertKind.TheVariants as cert
use Rattle.cert_checker.specs.declared.faults.CertFault.{CertFault}
use Rattle.bench_core.specs.Outcomes.{Refusal}

-- the word of a kind of fault of a network's text
abbrev pub net_kind_word : NetKind → List ℕ
net_kind_word net.NoHead = codes "NoHead"
net_kind_word net.BadLine = codes "BadLine"
net_kind_word net.BadName = codes "BadName"
net_kind_word net.Repeated = codes "Repeated"
net_kind_word net.BadType = codes "BadType"
net_kind_word net.UnknownRoutine = codes "UnknownRoutine"
net_kind_word net.BadCount = codes "BadCount"
net_kind_word net.UnknownName = codes "UnknownName"
net_kind_word net.LaterWire = codes "LaterWire"
net_kind_word net.TypeDiffers = codes "TypeDiffers"
net_kind_word net.BadNumber = codes "BadNumber"
net_kind_word net.OutOfRange = codes "OutOfRange"
net_kind_word net.TooMany = codes "TooMany"
net_kind_word net.Missing = codes "Missing"
net_kind_word net.NotBuilt = codes "NotBuilt"

-- the word of one of a certificate's text
abbrev pub cert_kind_word : CertKind → List ℕ
cert_kind_word cert.NoHead = codes "NoHead"
cert_kind_word cert.BadLine = codes "BadLine"
cert_kind_word cert.WrongPart = codes "WrongPart"
cert_kind_word cert.BadNumber = codes "BadNumber"
cert_kind_word cert.EmptyRange = codes "EmptyRange"
cert_kind_word cert.Missing = codes "Missing"

-- `FILE:LINE: KIND`
abbrev pub fault_line : List ℕ → ℕ → List ℕ → List ℕ
fault_line file line word = file ++ codes ":" ++ decimal line ++ codes ": " ++ word ++ 10 ∷ []

-- the network's text has a fault
unfoldable pub bad_network : List ℕ → NetFault → Refusal
bad_network file fault = record { status = 3; text = fault_line file fault.line (net_kind_word fault.kind) }

-- the certificate's text has a fault
unfoldable pub bad_certificate : List ℕ → CertFault → Refusal
bad_certificate file fault = record { status = 5; text = fault_line file fault.line (cert_kind_word fault.kind) }
