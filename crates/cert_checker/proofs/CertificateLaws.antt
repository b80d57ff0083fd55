-- A text that says a certificate says one entry for each part, and each entry is proper.
use Rattle.std.proofs.Common.{◌≡◌, ℕ, suc, ◌+◌, ◌<◌, ◌≤◌, ◌^◌, ◌==◌, Bool, true, false, cond, ◌&&◌, not, List, [], ◌∷◌, ◌++◌, length, ℤ, pos, negsuc, neg_ℤ, int_le, Option, Some, None, Result, Ok, Err, refl, sym, ◌∙◌, subst, eqb-true, arith}
use Rattle.std.specs.Prelude.{bytes_eq, codes, ok_or, position}
use Rattle.std.specs.List.{position_or_len}
use Rattle.std.proofs.lemmas.Bool.{true≢false, false≢true, and_from, and_parts, not_from_true, ltb-false, le-ltb}
use Rattle.text_words.specs.Lines.{nth}
use Rattle.text_words.specs.Numbers.{number_of}
use Rattle.net_model.specs.Wires.{NetData, parts_of}
use Rattle.net_model.specs.Validity.{IsValid}
use Rattle.net_model.proofs.PartPlaces.{few_parts}
use Rattle.text_words.specs.Steps.{◌>>=◌, demand}
use Rattle.part_rules.specs.declared.bounds.Bounds.{Bounds}
use Rattle.cert_rules.specs.Proper.{is_entry_number, is_proper_entry, first_improper}
use Rattle.cert_checker.specs.declared.faults.CertKind.{CertKind}
use Rattle.cert_checker.specs.declared.faults.CertKind.TheVariants.{BadLine, WrongPart, BadNumber, EmptyRange}
use Rattle.cert_checker.specs.CertificateText.{number_within, most, names_next, part_line, certificate_reader, certificate_of}
use Rattle.text_words.proofs.ReaderSteps.{kept_by_text}

-- two steps that give something: the first does, and the second goes on with it
record Bound {A B E : Type 0} (r : Result A E) (next : A → Result B E) (y : B) : Type 0 where
  value : A
  gives : r ≡ Ok value
  later : next value ≡ Ok y

bound : {A B E : Type 0} (r : Result A E) (next : A → Result B E) (y : B) → (r >>= next) ≡ Ok y → Bound r next y
bound (Ok x) next y h = record { value = x; gives = refl; later = h }
bound (Err e) next y h = cc

-- a test and a step that give something: the test holds, and the step gives it
demanded : {B : Type 0} (test : Bool) (kind : CertKind) (next : Unit {0} → Result B CertKind) (y : B) → (demand test kind >>= next) ≡ Ok y → (test ≡ true) × (next tt ≡ Ok y)
demanded true kind next y h = (refl, h)
demanded false kind next y h = cc

ok_same : {A E : Type 0} (x y : A) → ◌≡◌ {A = Result A E} (Ok x) (Ok y) → x ≡ y
ok_same x y h = cc

-- entries for each part are few
pub few_entries : (net : NetData) (entries : List Bounds) → IsValid net → length entries ≡ length (parts_of net.wires) → length entries < 2 ^ 32
few_entries net entries valid e =
    omega (arith, few_parts net valid, e)

-- ---- an entry of a line is proper

number_between : (least greatest : ℤ) (word : List ℕ) (v : ℤ) → number_within least greatest word ≡ Ok v → (int_le least v && int_le v greatest) ≡ true
unfolding number_within
number_between least greatest word v h =
    let n = bound (ok_or (number_of word) BadNumber) (λ value. demand (int_le least value && int_le value greatest) BadNumber >>= (λ _. Ok value)) v h in
    let t = demanded (int_le least n.value && int_le n.value greatest) BadNumber (λ _. Ok n.value) v n.later in
    subst (λ z. (int_le least z && int_le z greatest) ≡ true) (ok_same n.value v t.1) t.0

above_least : (z : ℤ) → int_le (pos 0) z ≡ true → int_le (neg_ℤ most) z ≡ true
above_least (pos k) h = refl
above_least (negsuc k) h = absurd (false≢true h)

proper_of : (lo hi err : ℤ) → int_le lo hi ≡ true → is_entry_number lo ≡ true → is_entry_number hi ≡ true → (int_le (pos 0) err && int_le err most) ≡ true → is_proper_entry (record { lo = lo; hi = hi; err = err }) ≡ true
proper_of lo hi err order low high error =
    let e = and_parts (int_le (pos 0) err) (int_le err most) error in
    and_from _ _ (and_from _ _ (and_from _ _ (and_from _ _ order e.0) low) high) (and_from _ _ (above_least err e.0) e.1)

-- the steps of a line, the last first
unfoldable bounds_in_order : ℤ → ℤ → ℤ → Result Bounds CertKind
bounds_in_order lo hi err = demand (int_le lo hi) EmptyRange >>= (λ _. Ok (record { lo = lo; hi = hi; err = err }))

unfoldable bounds_behind : List (List ℕ) → ℤ → ℤ → Result Bounds CertKind
bounds_behind words lo hi = number_within (pos 0) most (nth words 4) >>= (λ err. bounds_in_order lo hi err)

unfoldable bounds_from : List (List ℕ) → ℤ → Result Bounds CertKind
bounds_from words lo = number_within (neg_ℤ most) most (nth words 3) >>= (λ hi. bounds_behind words lo hi)

unfoldable bounds_of_line : List (List ℕ) → Result Bounds CertKind
bounds_of_line words = number_within (neg_ℤ most) most (nth words 2) >>= (λ lo. bounds_from words lo)

bounds_of_line-proper : (words : List (List ℕ)) (b : Bounds) → bounds_of_line words ≡ Ok b → is_proper_entry b ≡ true
unfolding bounds_of_line bounds_from bounds_behind bounds_in_order
bounds_of_line-proper words b h =
    let lo = bound (number_within (neg_ℤ most) most (nth words 2)) (λ lo. bounds_from words lo) b h in
    let hi = bound (number_within (neg_ℤ most) most (nth words 3)) (λ hi. bounds_behind words lo.value hi) b lo.later in
    let err = bound (number_within (pos 0) most (nth words 4)) (λ err. bounds_in_order lo.value hi.value err) b hi.later in
    let said : Bounds = record { lo = lo.value; hi = hi.value; err = err.value } in
    let order = demanded (int_le lo.value hi.value) EmptyRange (λ _. Ok said) b err.later in
    let low = number_between (neg_ℤ most) most (nth words 2) lo.value lo.gives in
    let high = number_between (neg_ℤ most) most (nth words 3) hi.value hi.gives in
    let error = number_between (pos 0) most (nth words 4) err.value err.gives in
    subst (λ x. is_proper_entry x ≡ true) (ok_same said b order.1) (proper_of lo.value hi.value err.value order.0 low high error)

part_line-proper : (net : NetData) (k : ℕ) (words : List (List ℕ)) (b : Bounds) → part_line net k words ≡ Ok b → is_proper_entry b ≡ true
unfolding part_line bounds_of_line bounds_from bounds_behind bounds_in_order
part_line-proper net k words b h =
    let form = demanded (bytes_eq (nth words 0) (codes "part") && (length words == 5)) BadLine (λ _. demand (names_next net k (nth words 1)) WrongPart >>= (λ _. bounds_of_line words)) b h in
    let name = demanded (names_next net k (nth words 1)) WrongPart (λ _. bounds_of_line words) b form.1 in
    bounds_of_line-proper words b name.1

-- ---- so are all entries of a text

pub none_is : (some : Bool) (k : ℕ) → cond some (Some k) None ≡ None → some ≡ false
none_is true k h = cc
none_is false k h = refl

none_from : (some : Bool) (k : ℕ) → some ≡ false → cond some (Some k) None ≡ None
none_from true k h = absurd (true≢false h)
none_from false k h = refl

behind_step : (here : Bool) (p n q m : ℕ) → (n ≤ p → m ≤ q) → suc n ≤ cond here (1 + p) 0 → suc m ≤ cond here (1 + q) 0
behind_step true p n q m later h =
    let before : n ≤ p = omega (arith, h) in
    omega (arith, later before)
behind_step false p n q m later h = absurd (omega (arith, h))

behind : (test : Bounds → Bool) (entries : List Bounds) (b : Bounds) → test b ≡ false → length entries ≤ position_or_len test entries → length (entries ++ b ∷ []) ≤ position_or_len test (entries ++ b ∷ [])
behind test [] b one h = rw one (omega arith)
behind test (e ∷ entries) b one h =
    behind_step (not (test e)) (position_or_len test entries) (length entries) (position_or_len test (entries ++ b ∷ [])) (length (entries ++ b ∷ [])) (behind test entries b one) h

-- where no entry passes a test, and one behind them doesn't either, none of all does
none_behind : (test : Bounds → Bool) (entries : List Bounds) (b : Bounds) → test b ≡ false → position test entries ≡ None → position test (entries ++ b ∷ []) ≡ None
none_behind test entries b one h =
    let before = ltb-false (position_or_len test entries) (length entries) (none_is _ _ h) in
    none_from _ _ (le-ltb (position_or_len test (entries ++ b ∷ [])) (length (entries ++ b ∷ [])) (behind test entries b one before))

some_is_not_none : (k : ℕ) → ◌≡◌ {A = Option ℕ} (Some k) None → ⊥
some_is_not_none k h = cc

entry_behind : (net : NetData) (found : List Bounds) (words : List (List ℕ)) (next : List Bounds) → first_improper found ≡ None → (part_line net (length found) words >>= (λ entry. Ok (found ++ entry ∷ []))) ≡ Ok next → first_improper next ≡ None
entry_behind net found words next none h =
    let e = bound (part_line net (length found) words) (λ entry. Ok (found ++ entry ∷ [])) next h in
    let proper = part_line-proper net (length found) words e.value e.gives in
    subst (λ entries. first_improper entries ≡ None) (ok_same _ next e.later) (none_behind (λ b. not (is_proper_entry b)) found e.value (not_from_true _ proper) none)

-- the certificate of a text has none that isn't proper, and one entry for each part
said_good : (net : NetData) (text : List ℕ) (entries : List Bounds) → certificate_of net text ≡ Ok entries → (first_improper entries ≡ None) × ((length entries == length (parts_of net.wires)) ≡ true)
unfolding certificate_of
said_good net text entries h =
    kept_by_text (certificate_reader net) (λ found. first_improper found ≡ None) text entries (λ found words next none made. entry_behind net found words next none made) refl h

pub certificate_of-complete : (net : NetData) (text : List ℕ) (entries : List Bounds) → certificate_of net text ≡ Ok entries → length entries ≡ length (parts_of net.wires)
certificate_of-complete net text entries h = eqb-true (length entries) (length (parts_of net.wires)) (said_good net text entries h).1

-- each entry of a text's certificate is proper, so none is the first that isn't
pub never_improper : (net : NetData) (text : List ℕ) (entries : List Bounds) (k : ℕ) → certificate_of net text ≡ Ok entries → first_improper entries ≡ Some k → ⊥
never_improper net text entries k h improper = some_is_not_none k (sym improper ∙ (said_good net text entries h).0)
