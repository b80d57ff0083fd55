-- The lines of a text, counted one by one: up to the one that defines a name, and all.
use Rattle.std.proofs.Common.{◌≡◌, ℕ, ◌+◌, ◌≤◌, Bool, true, false, cond, List, [], ◌∷◌, ◌++◌, length, drop, nat_eq, ap, subst, sym, ◌∙◌, arith}
use Rattle.std.specs.List.{starts_with}
use Rattle.std.proofs.lemmas.List.{length-append, length-drop}
use Rattle.text_words.specs.Lines.{without_mark, words_of}
use Rattle.net_text.specs.Names.{defines, line_naming}

-- a text without its mark isn't longer
pub without_mark_within : (rest text : List ℕ) → rest ≡ without_mark text → length rest ≤ length text
without_mark_within rest text is = subst (λ l. length l ≤ length text) (sym is) (by (starts_with nat_eq text (239 ∷ 187 ∷ 191 ∷ [])))
  where
    by : (marked : Bool) → length (cond marked (drop 3 text) text) ≤ length text
    by true = let e = length-drop 3 text in omega arith
    by false = omega arith

-- one more name in a set of them is one more key at most
pub keys_grow : {K : Type 0} (known : Bool) (old new : List K) (key : K) → new ≡ cond known old (old ++ key ∷ []) → length new ≤ length old + 1
keys_grow true old new key put = let e = ap length put in omega arith
keys_grow false old new key put = let e = ap length put in let f = length-append old (key ∷ []) in omega arith

-- ---- up to a name

pub naming_next : (lines rest : List (List ℕ)) (line name : List ℕ) (above whole : ℕ) → lines ≡ line ∷ rest → defines name (words_of line) ≡ false → above + line_naming lines name ≡ whole → (above + 1) + line_naming rest name ≡ whole
unfolding line_naming
naming_next lines rest line name above whole cut other had =
    let e : line_naming lines name ≡ line_naming rest name + 1 = ap (λ l. line_naming l name) cut ∙ ap (λ b. cond b 1 (line_naming rest name + 1)) other in omega arith

pub naming_found : (lines rest : List (List ℕ)) (line name : List ℕ) (above whole : ℕ) → lines ≡ line ∷ rest → defines name (words_of line) ≡ true → above + line_naming lines name ≡ whole → above + 1 ≡ whole
unfolding line_naming
naming_found lines rest line name above whole cut here had =
    let e : line_naming lines name ≡ 1 = ap (λ l. line_naming l name) cut ∙ ap (λ b. cond b 1 (line_naming rest name + 1)) here in omega arith

pub naming_none : (lines : List (List ℕ)) (name : List ℕ) (above whole : ℕ) → lines ≡ [] → above + line_naming lines name ≡ whole → above ≡ whole
unfolding line_naming
naming_none lines name above whole none had =
    let e : line_naming lines name ≡ 0 = ap (λ l. line_naming l name) none in omega arith

-- ---- all

pub count_next : (lines rest : List (List ℕ)) (line : List ℕ) (count whole : ℕ) → lines ≡ line ∷ rest → count + length lines ≡ whole → (count + 1) + length rest ≡ whole
count_next lines rest line count whole cut had = let e = ap length cut in omega arith

pub count_end : (lines : List (List ℕ)) (count whole : ℕ) → lines ≡ [] → count + length lines ≡ whole → count ≡ whole
count_end lines count whole none had = let e = ap length none in omega arith

pub ruleset count_steps = (count_next, count_end, without_mark_within)
