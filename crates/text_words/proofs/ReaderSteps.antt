-- A text that is read line by line: what each line does to what is read, and what all lines keep.
use Rattle.std.proofs.Common.{◌≡◌, ℕ, ◌+◌, ◌<◌, Bool, true, false, cond, ◌==◌, List, [], ◌∷◌, length, Result, Ok, Err, refl, subst, arith}
use Rattle.std.proofs.lemmas.Bool.Decides.{nat_tests}
use Rattle.text_words.specs.Lines.{lines_of, words_of}
use Rattle.text_words.specs.Steps.{◌>>=◌, demand}
use Rattle.text_words.specs.Readers.{is_head, Head, head_below, Reader, at_line, behind_line, behind_all, read_below, read_from, said_by}

-- a line with words isn't skipped
has_words : (line : List ℕ) → 0 < length (words_of line) → (length (words_of line) == 0) ≡ false
has_words line some = grind (arith, nat_tests)

-- ---- up to the head

pub head_below-none : (keyword : List ℕ) (above : ℕ) → head_below keyword above [] ≡ Err 1
unfolding head_below
head_below-none keyword above = refl

pub head_below-blank : (keyword : List ℕ) (above : ℕ) (line : List ℕ) (rest : List (List ℕ)) → length (words_of line) ≡ 0 → head_below keyword above (line ∷ rest) ≡ head_below keyword (above + 1) rest
unfolding head_below
head_below-blank keyword above line rest none = rw none

pub head_below-head : (keyword : List ℕ) (above : ℕ) (line : List ℕ) (rest : List (List ℕ)) → 0 < length (words_of line) → is_head keyword (words_of line) ≡ true → head_below keyword above (line ∷ rest) ≡ Ok (record { line = above + 1; below = rest })
unfolding head_below
head_below-head keyword above line rest some head = rw (has_words line some, head)

pub head_below-other : (keyword : List ℕ) (above : ℕ) (line : List ℕ) (rest : List (List ℕ)) → 0 < length (words_of line) → is_head keyword (words_of line) ≡ false → head_below keyword above (line ∷ rest) ≡ Err (above + 1)
unfolding head_below
head_below-other keyword above line rest some head = rw (has_words line some, head)

pub ruleset head_steps = (head_below-none, head_below-blank, head_below-head, head_below-other)

-- ---- below the head

pub read_below-blank : {S K F : Type 0} (reader : Reader S K F) (above : ℕ) (state : S) (line : List ℕ) (rest : List (List ℕ)) → length (words_of line) ≡ 0 → read_below reader above state (line ∷ rest) ≡ read_below reader (above + 1) state rest
unfolding read_below behind_line
read_below-blank reader above state line rest none = rw none

pub read_below-next : {S K F : Type 0} (reader : Reader S K F) (above : ℕ) (state next : S) (line : List ℕ) (rest : List (List ℕ)) → 0 < length (words_of line) → reader.step state (words_of line) ≡ Ok next → read_below reader above state (line ∷ rest) ≡ read_below reader (above + 1) next rest
unfolding read_below behind_line
read_below-next reader above state next line rest some gives = rw (has_words line some, gives)

pub read_below-fault : {S K F : Type 0} (reader : Reader S K F) (above : ℕ) (state : S) (line : List ℕ) (rest : List (List ℕ)) (kind : K) → 0 < length (words_of line) → reader.step state (words_of line) ≡ Err kind → read_below reader above state (line ∷ rest) ≡ Err (reader.fault (above + 1) kind)
unfolding read_below behind_line
read_below-fault reader above state line rest kind some gives = rw (has_words line some, gives)

pub read_below-complete : {S K F : Type 0} (reader : Reader S K F) (above : ℕ) (state : S) → reader.is_complete state ≡ true → read_below reader above state [] ≡ Ok state
unfolding read_below behind_all
read_below-complete reader above state complete = rw complete

pub read_below-incomplete : {S K F : Type 0} (reader : Reader S K F) (above : ℕ) (state : S) → reader.is_complete state ≡ false → read_below reader above state [] ≡ Err (reader.fault above reader.incomplete)
unfolding read_below behind_all
read_below-incomplete reader above state incomplete = rw incomplete

-- ---- what all lines keep

-- what is kept by each line with words
abbrev pub IsKept : {S K F : Type 0} → Reader S K F → (S → Type 0) → Type 0
IsKept reader P = (state : _) (words : List (List ℕ)) (next : _) → P state → reader.step state words ≡ Ok next → P next

kept_by_line : {S K F : Type 0} (reader : Reader S K F) (P : S → Type 0) (state : S) (words : List (List ℕ)) (next : S) (none : Bool) → IsKept reader P → P state → cond none (Ok state) (reader.step state words) ≡ Ok next → P next
kept_by_line reader P state words next true keeps p h = let same : state ≡ next = cc in subst P same p
kept_by_line reader P state words next false keeps p h = keeps state words next p h

kept_behind_line : {S K F : Type 0} (reader : Reader S K F) (P : S → Type 0) (state : S) (words : List (List ℕ)) (next : S) → IsKept reader P → P state → behind_line reader state words ≡ Ok next → P next
unfolding behind_line
kept_behind_line reader P state words next keeps p h = kept_by_line reader P state words next (length words == 0) keeps p h

kept_at_end : {S K F : Type 0} (reader : Reader S K F) (P : S → Type 0) (above : ℕ) (state last : S) (complete : Bool) → reader.is_complete state ≡ complete → P state → at_line reader above (demand complete reader.incomplete >>= λ _. Ok state) ≡ Ok last → P last × (reader.is_complete last ≡ true)
kept_at_end reader P above state last true is p h =
    let same : state ≡ last = cc in subst (λ s. P s × (reader.is_complete s ≡ true)) same (p, is)
kept_at_end reader P above state last false is p h = cc

-- a line without a fault, and then the others
line_and_rest : {S K F : Type 0} (reader : Reader S K F) (line : ℕ) (made : Result S K) (rest : S → Result S F) (last : S) (Q : Type 0) → ((next : S) → made ≡ Ok next → rest next ≡ Ok last → Q) → (at_line reader line made >>= rest) ≡ Ok last → Q
line_and_rest reader line (Ok next) rest last Q f h = f next refl h
line_and_rest reader line (Err kind) rest last Q f h = cc

kept_below : {S K F : Type 0} (reader : Reader S K F) (P : S → Type 0) (above : ℕ) (state : S) (lines : List (List ℕ)) (last : S) → IsKept reader P → P state → read_below reader above state lines ≡ Ok last → P last × (reader.is_complete last ≡ true)
unfolding read_below behind_all
kept_below reader P above state [] last keeps p h = kept_at_end reader P above state last (reader.is_complete state) refl p h
kept_below reader P above state (line ∷ rest) last keeps p h =
    line_and_rest reader (above + 1) (behind_line reader state (words_of line)) (λ next. read_below reader (above + 1) next rest) last _ (λ next gives later. kept_below reader P (above + 1) next rest last keeps (kept_behind_line reader P state (words_of line) next keeps p gives) later) h

kept_from_head : {S K F : Type 0} (reader : Reader S K F) (P : S → Type 0) (head : Result Head ℕ) (last : S) → IsKept reader P → P reader.start → read_from reader head ≡ Ok last → P last × (reader.is_complete last ≡ true)
kept_from_head reader P (Ok head) last keeps p h = kept_below reader P head.line reader.start head.below last keeps p h
kept_from_head reader P (Err line) last keeps p h = cc

-- what the start has and each line keeps, what is said has; and it is complete
pub kept_by_text : {S K F : Type 0} (reader : Reader S K F) (P : S → Type 0) (text : List ℕ) (last : S) → IsKept reader P → P reader.start → said_by reader text ≡ Ok last → P last × (reader.is_complete last ≡ true)
unfolding said_by
kept_by_text reader P text last keeps p h = kept_from_head reader P (head_below reader.keyword 0 (lines_of text)) last keeps p h
