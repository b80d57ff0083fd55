-- Printed lines are read again, word by word.
use Rattle.std.proofs.Common.{◌≡◌, ℕ, ◌-◌, Bool, true, false, cond, ◌||◌, List, [], ◌∷◌, ◌++◌, length, map, take, get_or, eqb, ◌==◌, refl, ap, ◌∙◌, append-nil, arith}
use Rattle.std.specs.List.{All, list_all, slice_split}
use Rattle.std.specs.Str.Lines.{strip_carriage_return}
use Rattle.std.proofs.lemmas.Bool.{and_parts, and_from}
use Rattle.std.proofs.lemmas.Bool.Decides.{nat_tests}
use Rattle.std.proofs.lemmas.List.Folds.{list_all-append}
use Rattle.std.proofs.lemmas.List.Splits.{slice_split_at, slice_split_none}
use Rattle.std.proofs.lemmas.List.Sums.{AllPass-from_list_all}
use Rattle.text_words.specs.Lines.{is_line_feed, without_empty_last, without_mark, lines_from, lines_of, is_space_or_tab, words_of}
use Rattle.text_words.specs.Printed.{behind_spaces, spaced, word_lines}
use Rattle.text_words.proofs.Cuts.{words_in, words_in-cons}
use Rattle.text_words.proofs.PrintedWords.{is_printed, is_word, are_words, is_word_parts, printed-word, list_all_weaker}

-- ---- the words of a line

no_blank : (byte : ℕ) → is_printed byte ≡ true → is_space_or_tab byte ≡ false
no_blank byte is = grind (arith, nat_tests)

-- no byte of a word is a blank
no_blanks : (word : List ℕ) → is_word word ≡ true → All (λ byte. is_space_or_tab byte ≡ false) word
no_blanks word is k d within = no_blank (get_or word k d) (AllPass-from_list_all is_printed word (printed-word word is) k d within)

-- between blanks a printed line's pieces are its words
pieces_of_words : (word : List ℕ) (words : List (List ℕ)) → is_word word ≡ true → are_words words ≡ true → slice_split is_space_or_tab (word ++ behind_spaces words) ≡ word ∷ words
pieces_of_words word [] is all = ap (slice_split is_space_or_tab) (append-nil word) ∙ slice_split_none is_space_or_tab word (no_blanks word is)
pieces_of_words word (next ∷ words) is all =
    let parts = and_parts (is_word next) (are_words words) all in
    slice_split_at is_space_or_tab word 32 (next ++ behind_spaces words) (no_blanks word is) refl ∙ ap (λ l. word ∷ l) (pieces_of_words next words parts.0 parts.1)

-- words are kept, since none is empty and none begins a comment
words_in_words : (words : List (List ℕ)) → are_words words ≡ true → words_in words ≡ words
words_in_words [] all = refl
words_in_words ([] ∷ words) all = cc
words_in_words ((byte ∷ bytes) ∷ words) all =
    let parts = and_parts (is_word (byte ∷ bytes)) (are_words words) all in
    let begins = (is_word_parts byte bytes parts.0).0 in
    let plain : eqb byte 35 ≡ false = grind (arith, nat_tests) in
    words_in-cons byte bytes words plain ∙ ap (λ l. (byte ∷ bytes) ∷ l) (words_in_words words parts.1)

-- the words of a printed line
pub words_of-spaced : (words : List (List ℕ)) → are_words words ≡ true → words_of (spaced words) ≡ words
unfolding words_of
words_of-spaced [] all = refl
words_of-spaced (word ∷ words) all =
    let parts = and_parts (is_word word) (are_words words) all in
    ap words_in (pieces_of_words word words parts.0 parts.1) ∙ words_in_words (word ∷ words) all

-- ---- the lines of a text

-- a byte of a printed line
abbrev is_inner : ℕ → Bool
is_inner byte = is_printed byte || (byte == 32)

no_feed : (byte : ℕ) → is_inner byte ≡ true → is_line_feed byte ≡ false
no_feed byte is = grind (arith, nat_tests)

no_return : (byte : ℕ) → is_inner byte ≡ true → eqb byte 13 ≡ false
no_return byte is = grind (arith, nat_tests)

inner_word : (word : List ℕ) → is_word word ≡ true → list_all is_inner word ≡ true
inner_word word is = list_all_weaker is_printed is_inner (λ byte printed. grind (arith, nat_tests)) word (printed-word word is)

inner_behind : (words : List (List ℕ)) → are_words words ≡ true → list_all is_inner (behind_spaces words) ≡ true
inner_behind [] all = refl
inner_behind (word ∷ words) all =
    let parts = and_parts (is_word word) (are_words words) all in
    list_all-append is_inner word (behind_spaces words) ∙ and_from _ _ (inner_word word parts.0) (inner_behind words parts.1)

inner_line : (words : List (List ℕ)) → are_words words ≡ true → list_all is_inner (spaced words) ≡ true
inner_line [] all = refl
inner_line (word ∷ words) all =
    let parts = and_parts (is_word word) (are_words words) all in
    list_all-append is_inner word (behind_spaces words) ∙ and_from _ _ (inner_word word parts.0) (inner_behind words parts.1)

-- no byte of a printed line ends it
no_feeds : (words : List (List ℕ)) → are_words words ≡ true → All (λ byte. is_line_feed byte ≡ false) (spaced words)
no_feeds words all k d within = no_feed _ (AllPass-from_list_all is_inner (spaced words) (inner_line words all) k d within)

-- the pieces of a text between line feeds are its lines and an empty one
pieces_of_lines : (lines : List (List (List ℕ))) → list_all are_words lines ≡ true → slice_split is_line_feed (word_lines lines) ≡ map spaced lines ++ [] ∷ []
pieces_of_lines [] all = refl
pieces_of_lines (words ∷ lines) all =
    let parts = and_parts (are_words words) (list_all are_words lines) all in
    slice_split_at is_line_feed (spaced words) 10 (word_lines lines) (no_feeds words parts.0) refl ∙ ap (λ l. spaced words ∷ l) (pieces_of_lines lines parts.1)

without_empty_last-append : (parts : List (List ℕ)) → without_empty_last (parts ++ [] ∷ []) ≡ parts
without_empty_last-append [] = refl
without_empty_last-append (part ∷ []) = refl
without_empty_last-append (part ∷ next ∷ parts) = ap (λ l. part ∷ l) (without_empty_last-append (next ∷ parts))

-- a line keeps its end
keeps_end : (line : List ℕ) → list_all is_inner line ≡ true → strip_carriage_return line ≡ line
keeps_end [] all = refl
keeps_end (byte ∷ bytes) all =
    let line = byte ∷ bytes in
    let last = AllPass-from_list_all is_inner line all (length line - 1) 0 (omega arith) in
    ap (λ b. cond b (take (length line - 1) line) line) (no_return _ last)

keep_ends : (lines : List (List (List ℕ))) → list_all are_words lines ≡ true → map strip_carriage_return (map spaced lines) ≡ map spaced lines
keep_ends [] all = refl
keep_ends (words ∷ lines) all =
    let parts = and_parts (are_words words) (list_all are_words lines) all in
    ap (λ l. l ∷ map strip_carriage_return (map spaced lines)) (keeps_end (spaced words) (inner_line words parts.0)) ∙ ap (λ l. spaced words ∷ l) (keep_ends lines parts.1)

-- a text of printed lines begins with no mark
no_mark_behind : (line rest : List ℕ) → list_all is_inner line ≡ true → without_mark (line ++ (10 ∷ rest)) ≡ line ++ (10 ∷ rest)
no_mark_behind [] rest all = refl
no_mark_behind (byte ∷ bytes) rest all =
    let first = (and_parts (is_inner byte) (list_all is_inner bytes) all).0 in
    let other : eqb 239 byte ≡ false = grind (arith, nat_tests) in
    rw other

no_mark : (lines : List (List (List ℕ))) → list_all are_words lines ≡ true → without_mark (word_lines lines) ≡ word_lines lines
no_mark [] all = refl
no_mark (words ∷ lines) all =
    let parts = and_parts (are_words words) (list_all are_words lines) all in
    no_mark_behind (spaced words) (word_lines lines) (inner_line words parts.0)

-- the lines of a printed text
pub lines_of-word_lines : (lines : List (List (List ℕ))) → list_all are_words lines ≡ true → lines_of (word_lines lines) ≡ map spaced lines
unfolding lines_of lines_from
lines_of-word_lines lines all =
    ap lines_from (no_mark lines all)
    ∙ ap (λ l. map strip_carriage_return (without_empty_last l)) (pieces_of_lines lines all)
    ∙ ap (map strip_carriage_return) (without_empty_last-append (map spaced lines))
    ∙ keep_ends lines all

map_words : (lines : List (List (List ℕ))) → list_all are_words lines ≡ true → map words_of (map spaced lines) ≡ lines
map_words [] all = refl
map_words (words ∷ lines) all =
    let parts = and_parts (are_words words) (list_all are_words lines) all in
    ap (λ l. l ∷ map words_of (map spaced lines)) (words_of-spaced words parts.0) ∙ ap (λ l. words ∷ l) (map_words lines parts.1)

-- the words of its lines
pub words_of-lines_of : (lines : List (List (List ℕ))) → list_all are_words lines ≡ true → map words_of (lines_of (word_lines lines)) ≡ lines
words_of-lines_of lines all = ap (map words_of) (lines_of-word_lines lines all) ∙ map_words lines all
