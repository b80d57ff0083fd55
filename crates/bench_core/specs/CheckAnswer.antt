-- What `check NET CERT` does, in the order of its refusals.
use Rattle.std.specs.Prelude.{ℕ, List, [], ◌∷◌, ◌++◌, Option, Some, None, Result, Ok, Err, codes, ⊤}
use Rattle.net_model.specs.Wires.{NetData}
use Rattle.part_rules.specs.declared.bounds.Bounds.{Bounds}
use Rattle.cert_rules.specs.Acceptance.{first_rejected}
use Rattle.cert_checker.specs.PartNames.{part_name}
use Rattle.cert_checker.specs.CertificateText.{certificate_of}
use Rattle.bench_core.specs.Outcomes.{Outcome, Refusal, done, printed, unless_refused}
use Rattle.bench_core.specs.RefusalTexts.{not_accepted}
use Rattle.bench_core.specs.FaultTexts.{bad_certificate}
use Rattle.bench_core.specs.FilesRead.{if_faultless, over_two_files, text_limit}

-- the certificate of a file's bytes, for the wires of a network
unfoldable pub certificate_in : NetData → List ℕ → List ℕ → Result (List Bounds) Refusal
certificate_in net name bytes = if_faultless (bad_certificate name) (certificate_of net bytes)

-- a certificate is accepted where no part is rejected
abbrev pub if_none_rejected : NetData → Option ℕ → Result ⊤ Refusal
if_none_rejected net None = Ok tt
if_none_rejected net (Some k) = Err (not_accepted (part_name net k))

-- whether a certificate with these entries is accepted, as a step
unfoldable pub acceptance : NetData → List Bounds → Result ⊤ Refusal
acceptance net entries = if_none_rejected net (first_rejected net entries)

-- the line that tells that a certificate is accepted
abbrev pub accepted_line : List ℕ
accepted_line = codes "accepted" ++ 10 ∷ []

-- the steps of the command, the last first: an accepted certificate is told
abbrev pub tell_accepted : ⊤ → Outcome
tell_accepted _ = printed accepted_line done

-- a certificate's entries are tested, and then it is told
unfoldable pub check_entries : NetData → List Bounds → Outcome
check_entries network entries = unless_refused (acceptance network entries) tell_accepted

-- the certificate of a file's bytes is read for the network, and then tested
unfoldable pub check_bytes : List ℕ → NetData → List ℕ → Outcome
check_bytes cert network bytes = unless_refused (certificate_in network cert bytes) (check_entries network)

-- the files of the network and of the certificate are read, and then the certificate
unfoldable pub check_answer : List (List ℕ × List ℕ) → List ℕ → List ℕ → Outcome
check_answer files net cert = over_two_files files net cert text_limit (check_bytes cert)
