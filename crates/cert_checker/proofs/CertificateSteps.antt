-- What each line below the head does to the entries so far.
use Rattle.std.proofs.Common.{◌≡◌, ◌≢◌, sym, ap, ◌∙◌, ℕ, ◌+◌, ◌<◌, true, false, ◌==◌, List, [], ◌∷◌, ◌++◌, length, Result, Ok, Err, arith}
use Rattle.std.proofs.lemmas.Bool.Decides.{nat_tests}
use Rattle.text_words.specs.Lines.{words_of}
use Rattle.text_words.specs.Readers.{read_below}
use Rattle.text_words.specs.Steps.{◌>>=◌}
use Rattle.text_words.proofs.ReaderSteps.{read_below-next, read_below-fault, read_below-complete, read_below-incomplete}
use Rattle.net_model.specs.Wires.{NetData, parts_of}
use Rattle.part_rules.specs.declared.bounds.Bounds.{Bounds}
use Rattle.cert_checker.specs.declared.faults.CertKind.{CertKind}
use Rattle.cert_checker.specs.declared.faults.CertKind.TheVariants.{Missing}
use Rattle.cert_checker.specs.CertificateText.{part_line, certificate_reader}

-- what a line was read as, seen with the entries so far
seen : (net : NetData) (k : ℕ) (entries : List Bounds) (words : List (List ℕ)) (read : Result Bounds CertKind) → k ≡ length entries → read ≡ part_line net k words → part_line net (length entries) words ≡ read
seen net k entries words read same is = sym (is ∙ ap (λ n. part_line net n words) same)

pub line-accepted : (net : NetData) (above : ℕ) (entries : List Bounds) (line : List ℕ) (rest : List (List ℕ)) (entry : Bounds) (k : ℕ) → k ≡ length entries → 0 < length (words_of line) → ◌≡◌ {A = Result Bounds CertKind} (Ok entry) (part_line net k (words_of line)) → read_below (certificate_reader net) above entries (line ∷ rest) ≡ read_below (certificate_reader net) (above + 1) (entries ++ entry ∷ []) rest
line-accepted net above entries line rest entry k same some is =
    read_below-next (certificate_reader net) above entries (entries ++ entry ∷ []) line rest some (ap (λ read. read >>= (λ e. Ok (entries ++ e ∷ []))) (seen net k entries (words_of line) (Ok entry) same is))

pub line-refused : (net : NetData) (above : ℕ) (entries : List Bounds) (line : List ℕ) (rest : List (List ℕ)) (kind : CertKind) (k : ℕ) → k ≡ length entries → 0 < length (words_of line) → ◌≡◌ {A = Result Bounds CertKind} (Err kind) (part_line net k (words_of line)) → read_below (certificate_reader net) above entries (line ∷ rest) ≡ Err (record { line = above + 1; kind = kind })
line-refused net above entries line rest kind k same some is =
    read_below-fault (certificate_reader net) above entries line rest kind some (ap (λ read. read >>= (λ e. Ok (entries ++ e ∷ []))) (seen net k entries (words_of line) (Err kind) same is))

-- ---- behind the last line

pub end-complete : (net : NetData) (above : ℕ) (entries : List Bounds) → length entries ≡ length (parts_of net.wires) → read_below (certificate_reader net) above entries [] ≡ Ok entries
end-complete net above entries complete =
    let e : (length entries == length (parts_of net.wires)) ≡ true = grind (arith, nat_tests) in
    read_below-complete (certificate_reader net) above entries e

pub end-missing : (net : NetData) (above : ℕ) (entries : List Bounds) (parts : ℕ) → parts ≡ length (parts_of net.wires) → length entries ≢ parts → read_below (certificate_reader net) above entries [] ≡ Err (record { line = above; kind = Missing })
end-missing net above entries parts is missing =
    let e : (length entries == length (parts_of net.wires)) ≡ false = grind (arith, nat_tests) in
    read_below-incomplete (certificate_reader net) above entries e
