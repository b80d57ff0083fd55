-- How the first piece, line or word is taken off the front.
use Rattle.std.proofs.Common.{◌≡◌, ℕ, ◌+◌, suc, ◌<◌, ◌≢◌, Bool, true, false, cond, not, List, [], ◌∷◌, length, take, drop, map, filter, take_while, eqb, get_or, refl, sym, ap, subst, ◌∙◌, one-add, take-append-drop, length-append, length-drop, get_or-drop, add-zero, ne_eqb, arith}
use Rattle.std.specs.List.{prefix_len, slice_split, onto_first}
use Rattle.std.specs.Str.Lines.{strip_carriage_return}
use Rattle.std.proofs.lemmas.List.Splits.{slice_split-cons_yes, length-slice_split}
use Rattle.std.proofs.lemmas.List.Sums.{prefix_len_stops, take_while-cons}
use Rattle.text_words.specs.Lines.{is_line_feed, without_empty_last, lines_from, is_space_or_tab, is_empty, begins_comment, words_of}

-- ---- pieces

-- the front of n bytes is the first piece, and the pieces of what follows it are an empty one and the others
abbrev IsFront : (ℕ → Bool) → List ℕ → ℕ → List (List ℕ) → Type 0
IsFront cuts bytes n parts =
    (others : List (List ℕ)) × (parts ≡ take n bytes ∷ others) × (slice_split cuts (drop n bytes) ≡ [] ∷ others)

IsFront_step : (cuts : ℕ → Bool) (byte : ℕ) (bytes : List ℕ) (n : ℕ) (here : Bool) → cuts byte ≡ here → IsFront cuts bytes n (slice_split cuts bytes) → IsFront cuts (byte ∷ bytes) (cond (not here) (1 + n) 0) (cond here ([] ∷ slice_split cuts bytes) (onto_first byte (slice_split cuts bytes)))
IsFront_step cuts byte bytes n true is front = (slice_split cuts bytes, refl, slice_split-cons_yes cuts byte bytes is)
IsFront_step cuts byte bytes n false is front =
    (front.0, ap (onto_first byte) front.1 ∙ ap (λ k. take k (byte ∷ bytes) ∷ front.0) (sym (one-add n)), ap (λ k. slice_split cuts (drop k (byte ∷ bytes))) (one-add n) ∙ front.2)

pub front_of_pieces : (cuts : ℕ → Bool) (bytes : List ℕ) → IsFront cuts bytes (prefix_len (λ byte. not (cuts byte)) bytes) (slice_split cuts bytes)
front_of_pieces cuts [] = ([], refl, refl)
front_of_pieces cuts (byte ∷ bytes) = IsFront_step cuts byte bytes _ (cuts byte) refl (front_of_pieces cuts bytes)

-- what follows an empty first piece
others_after_cut : (byte : ℕ) (here : Bool) (parts others : List (List ℕ)) → cond here ([] ∷ parts) (onto_first byte parts) ≡ [] ∷ others → others ≡ parts
others_after_cut byte true parts others is = cc
others_after_cut byte false [] others is = cc
others_after_cut byte false (part ∷ parts) others is = cc

-- ---- lines

-- a piece that isn't the last one stays
without_empty_last-cons : (piece : List ℕ) (parts : List (List ℕ)) → 0 < length parts → without_empty_last (piece ∷ parts) ≡ piece ∷ without_empty_last parts
without_empty_last-cons piece [] some = absurd (omega arith)
without_empty_last-cons piece (next ∷ more) some = refl

-- a text with nothing left has no lines
pub lines_from_none : (rest : List ℕ) → length rest ≡ 0 → lines_from rest ≡ []
unfolding lines_from
lines_from_none [] none = refl
lines_from_none (byte ∷ bytes) none = absurd (omega arith)

-- the last line: nothing follows its piece
last_line : (piece : List ℕ) → 0 < length piece → map strip_carriage_return (without_empty_last (piece ∷ [])) ≡ strip_carriage_return piece ∷ []
last_line [] some = absurd (omega arith)
last_line (byte ∷ bytes) some = refl

-- the lines of a first piece and the others, where `after` is what follows that piece
lines_of_front : (piece after : List ℕ) (others : List (List ℕ)) → 0 < length piece + length after → slice_split is_line_feed after ≡ [] ∷ others → map strip_carriage_return (without_empty_last (piece ∷ others)) ≡ strip_carriage_return piece ∷ lines_from (drop 1 after)
unfolding lines_from
lines_of_front piece [] [] some is = last_line piece (omega arith)
lines_of_front piece [] (other ∷ others) some is = cc
lines_of_front piece (byte ∷ bytes) others some is =
    let same = others_after_cut byte (is_line_feed byte) (slice_split is_line_feed bytes) others is in
    let any : 0 < length (slice_split is_line_feed bytes) = omega (arith, length-slice_split is_line_feed bytes) in
    ap (λ l. map strip_carriage_return (without_empty_last (piece ∷ l))) same
    ∙ ap (map strip_carriage_return) (without_empty_last-cons piece (slice_split is_line_feed bytes) any)

-- the first line is what stands before the first line feed, and the others are those of what follows that
pub lines_from_some : (rest : List ℕ) (n : ℕ) → 0 < length rest → n ≡ prefix_len (λ byte. not (is_line_feed byte)) rest → lines_from rest ≡ strip_carriage_return (take n rest) ∷ lines_from (drop 1 (drop n rest))
unfolding lines_from
lines_from_some rest n some n_is =
    let P : ℕ → Type 0 = λ k. IsFront is_line_feed rest k (slice_split is_line_feed rest) in
    let front = subst P (sym n_is) (front_of_pieces is_line_feed rest) in
    let any : 0 < length (take n rest) + length (drop n rest) = omega (arith, length-append (take n rest) (drop n rest), ap length (take-append-drop n rest)) in
    ap (λ l. map strip_carriage_return (without_empty_last l)) front.1 ∙ lines_of_front (take n rest) (drop n rest) front.0 any front.2

-- ---- words

-- what is kept of the pieces of a line
abbrev pub words_in : List (List ℕ) → List (List ℕ)
words_in parts = take_while (λ word. not (begins_comment word)) (filter (λ piece. not (is_empty piece)) parts)

pub words_in-cons : (byte : ℕ) (bytes : List ℕ) (parts : List (List ℕ)) → eqb byte 35 ≡ false → words_in ((byte ∷ bytes) ∷ parts) ≡ (byte ∷ bytes) ∷ words_in parts
words_in-cons byte bytes parts word = take_while-cons (λ w. not (begins_comment w)) (byte ∷ bytes) (filter (λ piece. not (is_empty piece)) parts) ∙ ap (λ b. cond (not b) ((byte ∷ bytes) ∷ words_in parts) []) word

words_in_comment : (bytes : List ℕ) (parts : List (List ℕ)) → words_in ((35 ∷ bytes) ∷ parts) ≡ []
words_in_comment bytes parts = take_while-cons (λ w. not (begins_comment w)) (35 ∷ bytes) (filter (λ piece. not (is_empty piece)) parts)

words_in_onto_comment : (parts : List (List ℕ)) → words_in (onto_first 35 parts) ≡ []
words_in_onto_comment [] = refl
words_in_onto_comment (part ∷ parts) = words_in_comment part parts

-- nothing left has no words
pub words_of_none : (line : List ℕ) → length line ≡ 0 → words_of line ≡ []
unfolding words_of
words_of_none [] none = refl
words_of_none (byte ∷ bytes) none = absurd (omega arith)

-- nor has a comment
pub words_of_comment : (line : List ℕ) → 0 < length line → get_or line 0 0 ≡ 35 → words_of line ≡ []
unfolding words_of
words_of_comment [] some hash = absurd (omega arith)
words_of_comment (byte ∷ bytes) some hash = ap (λ b. words_in (slice_split is_space_or_tab (b ∷ bytes))) hash ∙ words_in_onto_comment (slice_split is_space_or_tab bytes)

-- blanks at the front are no part of any word
words_of_blanks_step : (byte : ℕ) (bytes : List ℕ) (n : ℕ) (here : Bool) → is_space_or_tab byte ≡ here → words_of bytes ≡ words_of (drop n bytes) → words_of (byte ∷ bytes) ≡ words_of (drop (cond here (1 + n) 0) (byte ∷ bytes))
unfolding words_of
words_of_blanks_step byte bytes n true is same =
    ap words_in (slice_split-cons_yes is_space_or_tab byte bytes is) ∙ same ∙ ap (λ k. words_of (drop k (byte ∷ bytes))) (sym (one-add n))
words_of_blanks_step byte bytes n false is same = refl

pub words_of_blanks : (line : List ℕ) → words_of line ≡ words_of (drop (prefix_len is_space_or_tab line) line)
words_of_blanks [] = refl
words_of_blanks (byte ∷ bytes) = words_of_blanks_step byte bytes _ (is_space_or_tab byte) refl (words_of_blanks bytes)

-- the first word, of a byte that is neither a blank nor `#` and n more, and the others
words_in_front : (byte : ℕ) (bytes : List ℕ) (n : ℕ) (others : List (List ℕ)) → eqb byte 35 ≡ false → slice_split is_space_or_tab (drop n bytes) ≡ [] ∷ others → words_in (take (suc n) (byte ∷ bytes) ∷ others) ≡ take (suc n) (byte ∷ bytes) ∷ words_of (drop (suc n) (byte ∷ bytes))
unfolding words_of
words_in_front byte bytes n others word is = words_in-cons byte (take n bytes) others word ∙ ap (λ l. (byte ∷ take n bytes) ∷ l) (sym (ap words_in is))

-- a first word ends at the first blank, and the others are those of what is left
words_of_cons : (byte : ℕ) (bytes : List ℕ) (n : ℕ) → is_space_or_tab byte ≡ false → eqb byte 35 ≡ false → n ≡ prefix_len (λ b. not (is_space_or_tab b)) (byte ∷ bytes) → words_of (byte ∷ bytes) ≡ take n (byte ∷ bytes) ∷ words_of (drop n (byte ∷ bytes))
unfolding words_of
words_of_cons byte bytes n here word n_is =
    let m = prefix_len (λ b. not (is_space_or_tab b)) bytes in
    let n_suc = n_is ∙ ap (λ b. cond (not b) (1 + m) 0) here ∙ one-add m in
    let P : ℕ → Type 0 = λ k. IsFront is_space_or_tab (byte ∷ bytes) k (slice_split is_space_or_tab (byte ∷ bytes)) in
    let front = subst P (sym n_is ∙ n_suc) (front_of_pieces is_space_or_tab (byte ∷ bytes)) in
    let Q : ℕ → Type 0 = λ k. words_of (byte ∷ bytes) ≡ take k (byte ∷ bytes) ∷ words_of (drop k (byte ∷ bytes)) in
    subst Q (sym n_suc) (ap words_in front.1 ∙ words_in_front byte bytes m front.0 word front.2)

pub words_of_some : (line : List ℕ) (n : ℕ) → 0 < length line → is_space_or_tab (get_or line 0 0) ≡ false → get_or line 0 0 ≢ 35 → n ≡ prefix_len (λ b. not (is_space_or_tab b)) line → words_of line ≡ take n line ∷ words_of (drop n line)
words_of_some [] n some here word n_is = absurd (omega arith)
words_of_some (byte ∷ bytes) n some here word n_is = words_of_cons byte bytes n here (ne_eqb byte 35 word) n_is

-- what follows the blanks at the front doesn't begin with one
pub first_after_blanks : (line : List ℕ) → 0 < length (drop (prefix_len is_space_or_tab line) line) → is_space_or_tab (get_or (drop (prefix_len is_space_or_tab line) line) 0 0) ≡ false
first_after_blanks line some =
    let n = prefix_len is_space_or_tab line in
    let within : n < length line = omega (arith, length-drop n line) in
    ap is_space_or_tab (get_or-drop n line 0 0 ∙ ap (λ k. get_or line k 0) (add-zero n)) ∙ prefix_len_stops is_space_or_tab line 0 within

-- ---- for the cutters' proofs

pub ruleset line_steps = (lines_from_none, lines_from_some)

pub ruleset word_steps = (words_of_none, words_of_comment, words_of_blanks, words_of_some, first_after_blanks)
