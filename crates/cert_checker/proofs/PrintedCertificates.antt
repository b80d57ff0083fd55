-- The printed text of a certificate is read as the certificate: line by line, with the entries so far.
use Rattle.std.proofs.Common.{◌≡◌, ℕ, suc, ◌+◌, ◌-◌, ◌<◌, ◌≤◌, ◌^◌, Bool, true, false, cond, not, ◌&&◌, List, [], ◌∷◌, ◌++◌, map, length, ℤ, pos, negsuc, int_le, unsigned_abs, None, Ok, refl, sym, ap, subst, ◌∙◌, arith, append_assoc, append-nil, length-append, lt-ltb, eq-eqb}
use Rattle.std.specs.Prelude.{codes}
use Rattle.std.specs.List.{list_all, position_or_len}
use Rattle.std.specs.Fmt.{signed_decimal}
use Rattle.std.proofs.lemmas.Bool.{and_parts, and_from, ltb-false}
use Rattle.std.proofs.lemmas.Bool.Decides.{nat_tests}
use Rattle.std.proofs.lemmas.Slice.Eq.{bytes_eq-Decides}
use Rattle.text_words.specs.Printed.{spaced}
use Rattle.text_words.specs.Steps.{◌>>=◌}
use Rattle.text_words.specs.Readers.{head_below, read_below, read_from, said_by}
use Rattle.text_words.proofs.PrintedLines.{words_of-spaced, lines_of-word_lines}
use Rattle.text_words.proofs.PrintedNumbers.{number_of-signed_decimal}
use Rattle.text_words.proofs.PrintedWords.{is_printed, is_word, are_words, is_word-append, is_word-name, is_word-signed_decimal}
use Rattle.text_words.proofs.ReaderSteps.{read_below-next, read_below-complete}
use Rattle.net_model.specs.declared.wires.Role.{Role}
use Rattle.net_model.specs.declared.wires.Role.TheVariants.{Y, X1, X2, W, Value}
use Rattle.net_model.specs.Wires.{NetData, parts_of, wire_at}
use Rattle.net_model.specs.Validity.{IsValid}
use Rattle.net_model.proofs.ValidityFacts.{good_wire-valid, name_of_good}
use Rattle.part_rules.specs.declared.bounds.Bounds.{Bounds}
use Rattle.cert_rules.specs.Acceptance.{part_at}
use Rattle.cert_rules.specs.Proper.{is_entry_number, is_proper_entry, first_improper}
use Rattle.cert_rules.proofs.EntryFacts.{part_at-wire}
use Rattle.cert_checker.specs.PartNames.{part_name, role_suffix}
use Rattle.cert_checker.specs.CertificateText.{number_within, most, names_next, part_line, certificate_reader, certificate_of, after_part}
use Rattle.cert_checker.proofs.CertificateLaws.{none_is}
use Rattle.cert_checker.specs.CertificatePrinting.{entry_words, entry_lines, certificate_text}

-- ---- the name of a part

suffix_printed : (role : Role) → list_all is_printed (role_suffix role) ≡ true
suffix_printed Y = refl
suffix_printed X1 = refl
suffix_printed X2 = refl
suffix_printed W = refl
suffix_printed Value = refl

-- the name of a part is a word
is_word-part_name : (net : NetData) (k : ℕ) → IsValid net → k < length (parts_of net.wires) → is_word (part_name net k) ≡ true
is_word-part_name net k valid there =
    let wire = (part_at net k).wire.0 in
    let within = part_at-wire net k there in
    is_word-append (wire_at net.wires wire).name (role_suffix (part_at net k).role) (is_word-name (wire_at net.wires wire).name (name_of_good net wire (wire_at net.wires wire) (good_wire-valid net wire valid within))) (suffix_printed (part_at net k).role)

-- and the one that is wanted where its line stands
names_next-own : (net : NetData) (k : ℕ) → k < length (parts_of net.wires) → names_next net k (part_name net k) ≡ true
names_next-own net k there =
    and_from _ _ (lt-ltb k (length (parts_of net.wires)) there) ((bytes_eq-Decides (part_name net k) (part_name net k)).1 refl)

-- ---- the numbers of an entry

-- a number of an entry has few digits
entry_number-short : (z : ℤ) → is_entry_number z ≡ true → unsigned_abs z < 10 ^ 64
entry_number-short (pos n) within = grind (arith, nat_tests)
entry_number-short (negsuc n) within = grind (arith, nat_tests)

-- a number between two ends is read again
number_within-printed : (least greatest z : ℤ) → unsigned_abs z < 10 ^ 64 → (int_le least z && int_le z greatest) ≡ true → number_within least greatest (signed_decimal z) ≡ Ok z
unfolding number_within
number_within-printed least greatest z short within = rw (number_of-signed_decimal z short, within)

-- the tests of a proper entry, one by one
record IsProperEntry (b : Bounds) : Type 0 where
  order : int_le b.lo b.hi ≡ true
  error : int_le (pos 0) b.err ≡ true
  low : is_entry_number b.lo ≡ true
  high : is_entry_number b.hi ≡ true
  most_error : is_entry_number b.err ≡ true

five_tests : (a b c d e : Bool) → (a && b && c && d && e) ≡ true → (a ≡ true) × (b ≡ true) × (c ≡ true) × (d ≡ true) × (e ≡ true)
five_tests true true true true e h = (refl, refl, refl, refl, h)
five_tests true true true false e h = absurd (cc)
five_tests true true false d e h = absurd (cc)
five_tests true false c d e h = absurd (cc)
five_tests false b c d e h = absurd (cc)

proper_parts : (b : Bounds) → is_proper_entry b ≡ true → IsProperEntry b
proper_parts b proper =
    let t = five_tests (int_le b.lo b.hi) (int_le (pos 0) b.err) (is_entry_number b.lo) (is_entry_number b.hi) (is_entry_number b.err) proper in
    record { order = t.0; error = t.1; low = t.2; high = t.3; most_error = t.4 }

-- ---- the line of a part

entry_words-good : (net : NetData) (k : ℕ) (b : Bounds) → IsValid net → k < length (parts_of net.wires) → is_proper_entry b ≡ true → are_words (entry_words net k b) ≡ true
entry_words-good net k b valid there proper =
    let is = proper_parts b proper in
    and_from _ _ refl (and_from _ _ (is_word-part_name net k valid there)
    (and_from _ _ (is_word-signed_decimal b.lo (entry_number-short b.lo is.low))
    (and_from _ _ (is_word-signed_decimal b.hi (entry_number-short b.hi is.high))
    (and_from _ _ (is_word-signed_decimal b.err (entry_number-short b.err is.most_error)) refl))))

-- the line of a part says its entry
part_line-printed : (net : NetData) (k : ℕ) (b : Bounds) → k < length (parts_of net.wires) → is_proper_entry b ≡ true → part_line net k (entry_words net k b) ≡ Ok b
unfolding part_line
part_line-printed net k b there proper =
    let is = proper_parts b proper in
    let error = and_from _ _ is.error (and_parts (int_le (negsuc (2 ^ 62 - 1)) b.err) (int_le b.err most) is.most_error).1 in
    rw (names_next-own net k there, number_within-printed (negsuc (2 ^ 62 - 1)) most b.lo (entry_number-short b.lo is.low) is.low, number_within-printed (negsuc (2 ^ 62 - 1)) most b.hi (entry_number-short b.hi is.high) is.high, number_within-printed (pos 0) most b.err (entry_number-short b.err is.most_error) error, is.order)

-- ---- the lines of all parts

all_passed : (test : Bounds → Bool) (entries : List Bounds) → length entries ≤ position_or_len (λ b. not (test b)) entries → list_all test entries ≡ true
all_passed test [] h = refl
all_passed test (b ∷ entries) h = by (test b) (position_or_len (λ b. not (test b)) entries) (all_passed test entries) h
  where
    by : (t : Bool) (p : ℕ) → (length entries ≤ p → list_all test entries ≡ true) → suc (length entries) ≤ cond (not (not t)) (1 + p) 0 → (t && list_all test entries) ≡ true
    by true p rest h = rest (omega arith)
    by false p rest h = absurd (omega arith)

-- where none is the first that isn't proper, all are
all_proper : (entries : List Bounds) → first_improper entries ≡ None → list_all is_proper_entry entries ≡ true
all_proper entries none = all_passed is_proper_entry entries (ltb-false _ _ (none_is _ _ none))

entries_read : (net : NetData) (above : ℕ) (read entries : List Bounds) → IsValid net → length read + length entries ≡ length (parts_of net.wires) → list_all is_proper_entry entries ≡ true
    → read_below (certificate_reader net) above read (map spaced (entry_lines net (length read) entries)) ≡ Ok (read ++ entries)
entries_read net above read [] valid all proper =
    read_below-complete (certificate_reader net) above read (eq-eqb (length read) (length (parts_of net.wires)) (omega arith)) ∙ ap (λ l. Ok l) (sym (append-nil read))
entries_read net above read (b ∷ entries) valid all proper =
    let parts = and_parts (is_proper_entry b) (list_all is_proper_entry entries) proper in
    let there : length read < length (parts_of net.wires) = omega arith in
    let words = entry_words net (length read) b in
    let same = words_of-spaced words (entry_words-good net (length read) b valid there parts.0) in
    let longer : suc (length read) ≡ length (read ++ b ∷ []) = omega (arith, length-append read (b ∷ [])) in
    let step = ap (after_part net read) same ∙ ap (λ line. line >>= λ entry. Ok (read ++ entry ∷ [])) (part_line-printed net (length read) b there parts.0) in
    read_below-next (certificate_reader net) above read (read ++ b ∷ []) (spaced words) (map spaced (entry_lines net (suc (length read)) entries)) (subst (λ ws. 0 < length ws) (sym same) (omega arith)) step
    ∙ ap (λ k. read_below (certificate_reader net) (above + 1) (read ++ b ∷ []) (map spaced (entry_lines net k entries))) longer
    ∙ entries_read net (above + 1) (read ++ b ∷ []) entries valid (omega (arith, length-append read (b ∷ []))) parts.1
    ∙ ap (λ l. Ok l) (append_assoc read (b ∷ []) entries)

entry_lines-good : (net : NetData) (k : ℕ) (entries : List Bounds) → IsValid net → k + length entries ≤ length (parts_of net.wires) → list_all is_proper_entry entries ≡ true → list_all are_words (entry_lines net k entries) ≡ true
entry_lines-good net k [] valid within proper = refl
entry_lines-good net k (b ∷ entries) valid within proper =
    let parts = and_parts (is_proper_entry b) (list_all is_proper_entry entries) proper in
    and_from _ _ (entry_words-good net k b valid (omega arith) parts.0) (entry_lines-good net (suc k) entries valid (omega arith) parts.1)

-- the head, and the lines below it
head_read : (net : NetData) (rest : List (List ℕ)) → read_from (certificate_reader net) (head_below (codes "cert") 0 (spaced (codes "cert" ∷ codes "1" ∷ []) ∷ rest)) ≡ read_below (certificate_reader net) 1 [] rest
unfolding head_below
head_read net rest = rw (words_of-spaced (codes "cert" ∷ codes "1" ∷ []) refl)

-- the text is read as the entries
pub certificate_of-text : (net : NetData) (entries : List Bounds) → IsValid net → length entries ≡ length (parts_of net.wires) → first_improper entries ≡ None → certificate_of net (certificate_text net entries) ≡ Ok entries
unfolding certificate_of certificate_text said_by
certificate_of-text net entries valid all none =
    let proper = all_proper entries none in
    let lines = (codes "cert" ∷ codes "1" ∷ []) ∷ entry_lines net 0 entries in
    ap (λ l. read_from (certificate_reader net) (head_below (codes "cert") 0 l)) (lines_of-word_lines lines (and_from _ _ refl (entry_lines-good net 0 entries valid (omega arith) proper)))
    ∙ head_read net (map spaced (entry_lines net 0 entries))
    ∙ entries_read net 1 [] entries valid (omega arith) proper
