-- Where `check` answers 0, the certificate holds.
use Rattle.std.proofs.Common.{◌<◌, ◌≡◌, ℕ, Bool, true, false, List, Option, Some, None, Ok, refl, sym, ◌∙◌, subst, append-nil, arith}
use Rattle.std.specs.Prelude.{⊤, codes, ◌&&◌}
use Rattle.fx_io.specs.Outside.{bytes_of}
use Rattle.net_model.specs.Wires.{NetData}
use Rattle.part_rules.specs.declared.bounds.Bounds.{Bounds}
use Rattle.cert_rules.specs.Acceptance.{first_rejected}
use Rattle.cert_rules.proofs.AcceptanceLaws.{accepts_from_none_rejected, all_are_smooth}
use Rattle.cert_rules.proofs.TheoremProof.{certificates_hold}
use Rattle.net_text.specs.Text.{network_of}
use Rattle.cert_checker.specs.PartNames.{part_name}
use Rattle.cert_checker.specs.CertificateText.{certificate_of}
use Rattle.net_text.proofs.ReadingLaw.{network_of_valid}
use Rattle.cert_checker.proofs.CertificateLaws.{certificate_of-complete}
use Rattle.bench_core.proofs.PassedSteps.{RefusesAbove, above_from, faultless_above, given_faultless, ok_is_not_error, passed, passed_both}
use Rattle.bench_core.specs.Calls.{SinkCall, Writes}
use Rattle.bench_core.specs.Outcomes.{Outcome}
use Rattle.bench_core.specs.RefusalTexts.{not_accepted}
use Rattle.bench_core.specs.Requests.{is_file_word, check_words, request_of}
use Rattle.bench_core.proofs.RequestLaws.{over_files}
use Rattle.cert_checker.specs.declared.faults.CertFault.{CertFault}
use Rattle.bench_core.specs.FaultTexts.{bad_certificate}
use Rattle.bench_core.specs.CheckAnswer.{certificate_in, if_none_rejected, acceptance, accepted_line, tell_accepted, check_entries, check_bytes, check_answer}
use Rattle.bench_core.specs.FilesRead.{text_limit}
use Rattle.bench_core.specs.WholeAnswer.{answer_of, answer_of_request}
use Rattle.bench_core.specs.Headline.{IsCertified}
use Rattle.bench_core.specs.Clauses.{Certifies}

-- ---- the certificate

bad_certificate_above : (name : List ℕ) (fault : CertFault) → 0 < (bad_certificate name fault).status
unfolding bad_certificate
bad_certificate_above name fault = omega arith

certificate_above : (net : NetData) (name bytes : List ℕ) → RefusesAbove (certificate_in net name bytes)
unfolding certificate_in
certificate_above net name bytes = faultless_above (bad_certificate name) (certificate_of net bytes) (bad_certificate_above name)

certificate_given : (net : NetData) (name bytes : List ℕ) (entries : List Bounds) → certificate_in net name bytes ≡ Ok entries → certificate_of net bytes ≡ Ok entries
unfolding certificate_in
certificate_given net name bytes entries h = given_faultless (bad_certificate name) (certificate_of net bytes) entries h

-- ---- acceptance

none_rejected : (net : NetData) (k : Option ℕ) (x : ⊤) → if_none_rejected net k ≡ Ok x → k ≡ None
none_rejected net None x h = refl
none_rejected net (Some k) x h = absurd (ok_is_not_error x (not_accepted (part_name net k)) (sym h))

rejected_above : (net : NetData) (k : Option ℕ) → RefusesAbove (if_none_rejected net k)
rejected_above net None r h = absurd (ok_is_not_error tt r h)
rejected_above net (Some k) r h = above_from (not_accepted (part_name net k)) (omega arith) r h

acceptance_above : (net : NetData) (entries : List Bounds) → RefusesAbove (acceptance net entries)
unfolding acceptance
acceptance_above net entries = rejected_above net (first_rejected net entries)

acceptance_given : (net : NetData) (entries : List Bounds) (x : ⊤) → acceptance net entries ≡ Ok x → first_rejected net entries ≡ None
unfolding acceptance
acceptance_given net entries x h = none_rejected net (first_rejected net entries) x h

-- ---- the headline

certifies : (net cert : List ℕ) (network : NetData) (entries : List Bounds) → network_of net ≡ Ok network → certificate_of network cert ≡ Ok entries → first_rejected network entries ≡ None → IsCertified net cert
certifies net cert network entries n c k =
    let complete = certificate_of-complete network cert entries c in
    let accepts = accepts_from_none_rejected network entries (all_are_smooth network (network_of_valid net network n)) complete k in
    record {
      network = network;
      entries = entries;
      is_network = n;
      is_certificate = c;
      accepted = accepts;
      holds = certificates_hold network entries (network_of_valid net network n) accepts;
    }

-- where the answer of `check` has the status 0
record IsDone (files : List (List ℕ × List ℕ)) (net cert : List ℕ) (o : Outcome) : Type 0 where
  pub prints : o.out ≡ accepted_line
  pub certified : IsCertified (bytes_of files net) (bytes_of files cert)

check_done : (files : List (List ℕ × List ℕ)) (net cert : List ℕ) → (check_answer files net cert).status ≡ 0 → IsDone files net cert (check_answer files net cert)
unfolding check_answer check_bytes check_entries
check_done files net cert h =
    let n = passed_both files net cert text_limit (check_bytes cert) h in
    let bytes = bytes_of files cert in
    let c = passed (certificate_in n.network cert bytes) (check_entries n.network) (certificate_above n.network cert bytes) n.done_after in
    let a = passed (acceptance n.network c.given) tell_accepted (acceptance_above n.network c.given) c.done_after in
    record {
      prints = n.prints ∙ c.prints ∙ a.prints ∙ append-nil accepted_line;
      certified = certifies (bytes_of files net) bytes n.network c.given n.is_network (certificate_given n.network cert bytes c.given c.gives) (acceptance_given n.network c.given a.given a.gives);
    }

-- the words `check NET CERT` ask for `check`, or are outside the grammar
asked_done : (files : List (List ℕ × List ℕ)) (net cert : List ℕ) (b : Bool) → (answer_of_request files (over_files (codes "check") net cert b)).status ≡ 0 → IsDone files net cert (answer_of_request files (over_files (codes "check") net cert b))
asked_done files net cert true h = check_done files net cert h
asked_done files net cert false h = absurd (omega arith)

words_done : (files : List (List ℕ × List ℕ)) (words : List (List ℕ)) (net cert : List ℕ) → words ≡ check_words net cert → (answer_of words files).status ≡ 0 → IsDone files net cert (answer_of words files)
unfolding answer_of
words_done files words net cert w h =
    let P : List (List ℕ) → Type 0 = λ ws. (answer_of_request files (request_of ws)).status ≡ 0 → IsDone files net cert (answer_of_request files (request_of ws)) in
    subst P (sym w) (asked_done files net cert (is_file_word net && is_file_word cert)) h

-- status 0 for the words of `check`
pub certifies_done : (files : List (List ℕ × List ℕ)) (words : List (List ℕ)) (net cert : List ℕ) (out : SinkCall) → words ≡ check_words net cert → ((answer_of words files).status ≡ 0) × Writes out (answer_of words files).out → Certifies files net cert out
certifies_done files words net cert out w h =
    let d = words_done files words net cert w h.0 in
    (subst (Writes out) d.prints h.1, d.certified)
