-- What is left of a line's sorts and ranges at a place, and one more wire that its words name.
use Rattle.std.proofs.Common.{◌≡◌, ℕ, ◌+◌, ◌<◌, ◌-◌, suc, arith, Bool, true, ◌&&◌, List, ◌∷◌, length, drop, get_or, ap, sym, ◌∙◌, drop-cons, add-one, pos, ℤ, [], ◌++◌, ◌≤◌, Result, Ok, Err, refl, ap₂, append_assoc, append-nil, drop_of_length-le}
use Rattle.text_words.specs.Lines.{nth}
use Rattle.text_words.specs.Steps.{◌>>=◌}
use Rattle.net_model.specs.declared.network.NetKind.{NetKind}
use Rattle.net_model.specs.declared.wires.WireNo.{WireNo}
use Rattle.net_model.specs.declared.wires.Wire.{Wire}
use Rattle.net_model.specs.declared.signatures.Sort.{Sort}
use Rattle.net_model.specs.declared.signatures.Sort.TheVariants.{Truth}
use Rattle.net_model.specs.declared.signatures.Range.{Range}
use Rattle.net_model.specs.declared.signatures.ListSort.{ListSort}
use Rattle.net_model.specs.Wires.{NetData}
use Rattle.net_text.specs.Forms.{all_pass, wires_named, wire_named, lists_named, list_named, numbers_in, number_in}

left_at : {A : Type 0} (xs : List A) (i : ℕ) (d : A) → i < length xs → drop i xs ≡ get_or xs i d ∷ drop (i + 1) xs
left_at xs i d lt = drop-cons xs i d lt ∙ ap (λ k. get_or xs i d ∷ drop k xs) (sym (add-one i))

pub sorts_left : (sorts : List Sort) (i : ℕ) → i < length sorts → drop i sorts ≡ get_or sorts i Truth ∷ drop (i + 1) sorts
sorts_left sorts i lt = left_at sorts i Truth lt

pub ranges_left : (ranges : List Range) (i : ℕ) → i < length ranges → drop i ranges ≡ get_or ranges i (record { low = pos 0; high = 0 }) ∷ drop (i + 1) ranges
ranges_left ranges i lt = left_at ranges i (record { low = pos 0; high = 0 }) lt

pub list_sorts_left : (sorts : List ListSort) (i : ℕ) (d : ListSort) → i < length sorts → drop i sorts ≡ get_or sorts i d ∷ drop (i + 1) sorts
list_sorts_left sorts i d lt = left_at sorts i d lt

-- so many words that are left are one and those behind it
pub words_step : (test : List ℕ → Bool) (count i k : ℕ) (words : List (List ℕ)) → i < count → all_pass test (count - i) (k + i) words ≡ (test (nth words (k + i)) && all_pass test (count - (i + 1)) (k + (i + 1)) words)
unfolding all_pass
words_step test count i k words lt =
    let one : count - i ≡ suc (count - (i + 1)) = omega arith in
    let next : k + i + 1 ≡ k + (i + 1) = omega arith in
    ap (λ n. all_pass test n (k + i) words) one ∙ ap (λ n. test (nth words (k + i)) && all_pass test (count - (i + 1)) n words) next

pub words_end : (test : List ℕ → Bool) (count i k : ℕ) (words : List (List ℕ)) → count ≤ i → all_pass test (count - i) k words ≡ true
unfolding all_pass
words_end test count i k words past =
    let none : count - i ≡ 0 = omega arith in ap (λ n. all_pass test n k words) none

pub ruleset words_left = (words_step, words_end)

-- what stands behind three words
behind_words : (words : List (List ℕ)) → drop 1 (drop 1 (drop 1 words)) ≡ drop 3 words
behind_words [] = refl
behind_words (a ∷ []) = refl
behind_words (a ∷ b ∷ []) = refl
behind_words (a ∷ b ∷ c ∷ words) = refl

pub behind_three : (first second third line : List (List ℕ)) → first ≡ drop 1 line → second ≡ drop 1 first → third ≡ drop 1 second → third ≡ drop 3 line
behind_three first second third line a b c =
    c ∙ ap (λ w. drop 1 w) b ∙ ap (λ w. drop 1 (drop 1 w)) a ∙ behind_words line

-- what is read behind what was read
abbrev pub behind : {A E : Type 0} → List A → Result (List A) E → Result (List A) E
behind xs (Ok ys) = Ok (xs ++ ys)
behind xs (Err e) = Err e

pub behind_none : {A E : Type 0} (r : Result (List A) E) → behind [] r ≡ r
behind_none (Ok ys) = refl
behind_none (Err e) = refl

behind_one : {A E : Type 0} (old : List A) (x : A) (r : Result (List A) E) → behind (old ++ x ∷ []) r ≡ behind old (r >>= λ rest. Ok (x ∷ rest))
behind_one old x (Ok ys) = ap (λ l. Ok l) (append_assoc old (x ∷ []) ys)
behind_one old x (Err e) = refl

-- one more word that names a wire
pub wires_step : (all : List Wire) (old new : List WireNo) (w : WireNo) (sorts : List Sort) (i k m : ℕ) (words : List (List ℕ)) (whole : Result (List WireNo) NetKind)
    → i < length sorts → m ≡ k + 1 → new ≡ old ++ w ∷ [] → wire_named all (nth words k) ≡ Ok w → behind old (wires_named all (drop i sorts) k words) ≡ whole → behind new (wires_named all (drop (i + 1) sorts) m words) ≡ whole
unfolding wires_named
wires_step all old new w sorts i k m words whole lt next more named below =
    let rest = wires_named all (drop (i + 1) sorts) (k + 1) words in
    ap₂ (λ l n. behind l (wires_named all (drop (i + 1) sorts) n words)) more next
    ∙ behind_one old w rest
    ∙ ap (λ r. behind old (r >>= λ v. rest >>= λ ws. Ok (v ∷ ws))) (sym named)
    ∙ ap (λ l. behind old (wires_named all l k words)) (sym (sorts_left sorts i lt))
    ∙ below

pub wires_stop : (all : List Wire) (old : List WireNo) (e : NetKind) (sorts : List Sort) (i k : ℕ) (words : List (List ℕ)) (whole : Result (List WireNo) NetKind)
    → i < length sorts → wire_named all (nth words k) ≡ Err e → behind old (wires_named all (drop i sorts) k words) ≡ whole → Err e ≡ whole
unfolding wires_named
wires_stop all old e sorts i k words whole lt named below =
    let rest = wires_named all (drop (i + 1) sorts) (k + 1) words in
    ap (λ r. behind old (r >>= λ v. rest >>= λ ws. Ok (v ∷ ws))) (sym named)
    ∙ ap (λ l. behind old (wires_named all l k words)) (sym (sorts_left sorts i lt))
    ∙ below

pub wires_end : (all : List Wire) (old : List WireNo) (sorts : List Sort) (i k : ℕ) (words : List (List ℕ)) (whole : Result (List WireNo) NetKind)
    → length sorts ≤ i → behind old (wires_named all (drop i sorts) k words) ≡ whole → Ok old ≡ whole
unfolding wires_named
wires_end all old sorts i k words whole past below =
    ap (λ l. Ok l) (sym (append-nil old)) ∙ ap (λ l. behind old (wires_named all l k words)) (sym (drop_of_length-le sorts past)) ∙ below

-- one more word that names an axis or a table
pub lists_step : (net : NetData) (old new : List ℕ) (n : ℕ) (sorts : List ListSort) (d : ListSort) (i k m : ℕ) (words : List (List ℕ)) (whole : Result (List ℕ) NetKind)
    → i < length sorts → m ≡ k + 1 → new ≡ old ++ n ∷ [] → list_named net (get_or sorts i d) (nth words k) ≡ Ok n → behind old (lists_named net (drop i sorts) k words) ≡ whole → behind new (lists_named net (drop (i + 1) sorts) m words) ≡ whole
unfolding lists_named
lists_step net old new n sorts d i k m words whole lt next more named below =
    let rest = lists_named net (drop (i + 1) sorts) (k + 1) words in
    ap₂ (λ l n. behind l (lists_named net (drop (i + 1) sorts) n words)) more next
    ∙ behind_one old n rest
    ∙ ap (λ r. behind old (r >>= λ v. rest >>= λ ns. Ok (v ∷ ns))) (sym named)
    ∙ ap (λ l. behind old (lists_named net l k words)) (sym (list_sorts_left sorts i d lt))
    ∙ below

pub lists_stop : (net : NetData) (old : List ℕ) (e : NetKind) (sorts : List ListSort) (d : ListSort) (i k : ℕ) (words : List (List ℕ)) (whole : Result (List ℕ) NetKind)
    → i < length sorts → list_named net (get_or sorts i d) (nth words k) ≡ Err e → behind old (lists_named net (drop i sorts) k words) ≡ whole → Err e ≡ whole
unfolding lists_named
lists_stop net old e sorts d i k words whole lt named below =
    let rest = lists_named net (drop (i + 1) sorts) (k + 1) words in
    ap (λ r. behind old (r >>= λ v. rest >>= λ ns. Ok (v ∷ ns))) (sym named)
    ∙ ap (λ l. behind old (lists_named net l k words)) (sym (list_sorts_left sorts i d lt))
    ∙ below

pub lists_end : (net : NetData) (old : List ℕ) (sorts : List ListSort) (i k : ℕ) (words : List (List ℕ)) (whole : Result (List ℕ) NetKind)
    → length sorts ≤ i → behind old (lists_named net (drop i sorts) k words) ≡ whole → Ok old ≡ whole
unfolding lists_named
lists_end net old sorts i k words whole past below =
    ap (λ l. Ok l) (sym (append-nil old)) ∙ ap (λ l. behind old (lists_named net l k words)) (sym (drop_of_length-le sorts past)) ∙ below

-- one more word that writes a number
pub numbers_step : (old new : List ℤ) (n : ℤ) (ranges : List Range) (i k m : ℕ) (words : List (List ℕ)) (whole : Result (List ℤ) NetKind)
    → i < length ranges → m ≡ k + 1 → new ≡ old ++ n ∷ [] → number_in (get_or ranges i (record { low = pos 0; high = 0 })) (nth words k) ≡ Ok n → behind old (numbers_in (drop i ranges) k words) ≡ whole → behind new (numbers_in (drop (i + 1) ranges) m words) ≡ whole
unfolding numbers_in
numbers_step old new n ranges i k m words whole lt next more found below =
    let rest = numbers_in (drop (i + 1) ranges) (k + 1) words in
    ap₂ (λ l n. behind l (numbers_in (drop (i + 1) ranges) n words)) more next
    ∙ behind_one old n rest
    ∙ ap (λ r. behind old (r >>= λ v. rest >>= λ ws. Ok (v ∷ ws))) (sym found)
    ∙ ap (λ l. behind old (numbers_in l k words)) (sym (ranges_left ranges i lt))
    ∙ below

pub numbers_stop : (old : List ℤ) (e : NetKind) (ranges : List Range) (i k : ℕ) (words : List (List ℕ)) (whole : Result (List ℤ) NetKind)
    → i < length ranges → number_in (get_or ranges i (record { low = pos 0; high = 0 })) (nth words k) ≡ Err e → behind old (numbers_in (drop i ranges) k words) ≡ whole → Err e ≡ whole
unfolding numbers_in
numbers_stop old e ranges i k words whole lt found below =
    let rest = numbers_in (drop (i + 1) ranges) (k + 1) words in
    ap (λ r. behind old (r >>= λ v. rest >>= λ ws. Ok (v ∷ ws))) (sym found)
    ∙ ap (λ l. behind old (numbers_in l k words)) (sym (ranges_left ranges i lt))
    ∙ below

pub numbers_end : (old : List ℤ) (ranges : List Range) (i k : ℕ) (words : List (List ℕ)) (whole : Result (List ℤ) NetKind)
    → length ranges ≤ i → behind old (numbers_in (drop i ranges) k words) ≡ whole → Ok old ≡ whole
unfolding numbers_in
numbers_end old ranges i k words whole past below =
    ap (λ l. Ok l) (sym (append-nil old)) ∙ ap (λ l. behind old (numbers_in l k words)) (sym (drop_of_length-le ranges past)) ∙ below
