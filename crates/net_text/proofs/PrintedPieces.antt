-- What is printed piece by piece is what is printed at once.
use Rattle.std.proofs.Common.{◌≡◌, ℕ, zero, suc, ◌<◌, ◌≤◌, true, length, subst, List, [], ◌∷◌, ◌++◌, refl, sym, ap, ◌∙◌, append_assoc, append-nil, Result, Ok, Err, take, take-suc, drop, drop-cons, get_or, add-one, ◌+◌, ℤ, pos, arith}
use Rattle.std.specs.Prelude.{OnOk, map, codes, min}
use Rattle.std.specs.Fmt.{signed_decimal}
use Rattle.text_words.specs.Printed.{behind_spaces, spaced, word_lines}
use Rattle.net_text.specs.Printing.{lines_below, axis_words, table_words, wire_words, out_words, list_words, number_words, words_printed}
use Rattle.net_model.specs.declared.wires.Wire.{Wire}
use Rattle.net_model.specs.declared.signatures.ListSort.{ListSort}
use Rattle.net_model.specs.Wires.{NetData, wire_at}
use Rattle.net_model.specs.Validity.{item_agrees, IsValid}
use Rattle.net_model.proofs.ValidityFacts.{good_item-valid}

pub behind_spaces_append : (a b : List (List ℕ)) → behind_spaces (a ++ b) ≡ behind_spaces a ++ behind_spaces b
behind_spaces_append [] b = refl
behind_spaces_append (word ∷ a) b =
    ap (λ l. 32 ∷ word ++ l) (behind_spaces_append a b) ∙ ap (λ l. 32 ∷ l) (sym (append_assoc word (behind_spaces a) (behind_spaces b)))

-- words that are pushed in three steps
pub joined_thrice : {A E : Type 0} (r : Result A E) (old first second new : List ℕ) (a b c : List (List ℕ)) → first ≡ old ++ behind_spaces a → second ≡ first ++ behind_spaces b → OnOk r (new ≡ second ++ behind_spaces c) → OnOk r (new ≡ old ++ behind_spaces (a ++ (b ++ c)))
joined_thrice (Ok v) old first second new a b c e f h =
    h ∙ ap (λ l. l ++ behind_spaces c) (f ∙ ap (λ l. l ++ behind_spaces b) e ∙ append_assoc old (behind_spaces a) (behind_spaces b))
    ∙ append_assoc old (behind_spaces a ++ behind_spaces b) (behind_spaces c)
    ∙ ap (λ l. old ++ l) (append_assoc (behind_spaces a) (behind_spaces b) (behind_spaces c)
    ∙ ap (λ l. behind_spaces a ++ l) (sym (behind_spaces_append b c)) ∙ sym (behind_spaces_append a (b ++ c)))
joined_thrice (Err f) old first second new a b c e h g = tt

lines_below_append : (a b : List (List (List ℕ))) → lines_below (a ++ b) ≡ lines_below a ++ lines_below b
lines_below_append [] b = refl
lines_below_append (words ∷ a) b =
    ap (λ l. 10 ∷ spaced words ++ l) (lines_below_append a b) ∙ ap (λ l. 10 ∷ l) (sym (append_assoc (spaced words) (lines_below a) (lines_below b)))

-- a line with the lines below it, and the last one's line feed
lines_ended : (first : List (List ℕ)) (lines : List (List (List ℕ))) → spaced first ++ (lines_below lines ++ 10 ∷ []) ≡ word_lines (first ∷ lines)
lines_ended first [] = refl
lines_ended first (words ∷ lines) =
    ap (λ l. spaced first ++ (10 ∷ l)) (append_assoc (spaced words) (lines_below lines) (10 ∷ []) ∙ lines_ended words lines)

-- the types of each wire agree
pub wire_agrees : (net : NetData) (wires : List Wire) (i : ℕ) (w : Wire) → wires ≡ net.wires → IsValid net → i < length wires → w ≡ wire_at wires i → item_agrees net w.kind w.item ≡ true
wire_agrees net wires i w same valid within is =
    subst (λ w. item_agrees net w.kind w.item ≡ true) (sym (is ∙ ap (λ l. wire_at l i) same))
    (good_item-valid net i (wire_at net.wires i).item valid (subst (λ l. i < length l) same within) refl).agreed

-- one word more at a line's end
word_joined : (old between word added : List ℕ) (words : List (List ℕ)) → between ≡ old ++ 10 ∷ spaced (word ∷ words) → between ++ 32 ∷ added ≡ old ++ 10 ∷ spaced (word ∷ (words ++ added ∷ []))
word_joined old between word added words e =
    ap (λ l. l ++ 32 ∷ added) e ∙ append_assoc old (10 ∷ spaced (word ∷ words)) (32 ∷ added)
    ∙ ap (λ l. old ++ 10 ∷ l) (append_assoc word (behind_spaces words) (32 ∷ added)
    ∙ ap (λ l. word ++ l) (ap (λ l. behind_spaces words ++ 32 ∷ l) (sym (append-nil added)) ∙ sym (behind_spaces_append words (added ∷ []))))

-- two words more at a line's end
pub words_joined : {A E : Type 0} (r : Result A E) (old first second new word lo hi : List ℕ) (words : List (List ℕ)) → first ≡ old ++ 10 ∷ spaced (word ∷ words) → second ≡ first ++ 32 ∷ lo → OnOk r (new ≡ second ++ 32 ∷ hi) → OnOk r (new ≡ old ++ 10 ∷ spaced (word ∷ ((words ++ lo ∷ []) ++ hi ∷ [])))
words_joined (Ok v) old first second new word lo hi words e f h = h ∙ word_joined old second word hi (words ++ lo ∷ []) (f ∙ word_joined old first word lo words e)
words_joined (Err fault) old first second new word lo hi words e f h = tt

-- lines below what is there, in four parts, and the last one's line feed
four_parts : (head : List ℕ) (a b c d : List (List (List ℕ))) → (((head ++ lines_below a) ++ lines_below b) ++ lines_below c) ++ lines_below d ≡ head ++ lines_below (a ++ (b ++ (c ++ d)))
four_parts head a b c d =
    append_assoc ((head ++ lines_below a) ++ lines_below b) (lines_below c) (lines_below d)
    ∙ ap (λ l. ((head ++ lines_below a) ++ lines_below b) ++ l) (sym (lines_below_append c d))
    ∙ append_assoc (head ++ lines_below a) (lines_below b) (lines_below (c ++ d))
    ∙ ap (λ l. (head ++ lines_below a) ++ l) (sym (lines_below_append b (c ++ d)))
    ∙ append_assoc head (lines_below a) (lines_below (b ++ (c ++ d)))
    ∙ ap (λ l. head ++ l) (sym (lines_below_append a (b ++ (c ++ d))))

-- the text of a network, from its six steps
pub text_joined : (net : NetData) (head axes tables wires outs text : List ℕ) → head ≡ codes "net 1" → axes ≡ head ++ lines_below (map axis_words net.axes) → tables ≡ axes ++ lines_below (map table_words net.tables)
    → wires ≡ tables ++ lines_below (map (wire_words net) net.wires) → outs ≡ wires ++ lines_below (map (out_words net.wires) net.outs) → text ≡ outs ++ 10 ∷ [] → text ≡ word_lines (words_printed net)
text_joined net head axes tables wires outs text e ea et ew eo h =
    let first = codes "net" ∷ codes "1" ∷ [] in
    let a = map axis_words net.axes in
    let b = map table_words net.tables in
    let c = map (wire_words net) net.wires in
    let d = map (out_words net.wires) net.outs in
    let below = a ++ (b ++ (c ++ d)) in
    h ∙ ap (λ l. l ++ 10 ∷ []) (eo ∙ ap (λ l. l ++ lines_below d) (ew ∙ ap (λ l. l ++ lines_below c) (et ∙ ap (λ l. l ++ lines_below b) (ea ∙ ap (λ l. l ++ lines_below a) e))) ∙ four_parts (spaced first) a b c d)
    ∙ append_assoc (spaced first) (lines_below below) (10 ∷ [])
    ∙ lines_ended first below

lines_of_more : {A : Type 0} (f : A → List (List ℕ)) (xs : List A) (x : A) → lines_below (map f (xs ++ x ∷ [])) ≡ lines_below (map f xs) ++ 10 ∷ spaced (f x)
lines_of_more f [] x = ap (λ l. 10 ∷ l) (append-nil (spaced (f x)))
lines_of_more f (y ∷ xs) x =
    ap (λ l. 10 ∷ spaced (f y) ++ l) (lines_of_more f xs x) ∙ ap (λ l. 10 ∷ l) (sym (append_assoc (spaced (f y)) (lines_below (map f xs)) (10 ∷ spaced (f x))))

-- the lines so far, with the line of the next element: `given` and `g` are the elements and the words as the loop has them
pub line_behind : {A : Type 0} (f g : A → List (List ℕ)) (xs given : List A) (i : ℕ) (x d : A) (old so_far new : List ℕ) → given ≡ xs → g ≡ f → i < length given → x ≡ get_or given i d → so_far ≡ old ++ lines_below (map f (take i xs)) → new ≡ so_far ++ 10 ∷ spaced (g x) → new ≡ old ++ lines_below (map f (take (i + 1) xs))
line_behind f g xs given i x d old so_far new same alike below is e h =
    let within : i < length xs = subst (λ l. i < length l) same below in
    let at : get_or xs i d ≡ x = sym (is ∙ ap (λ l. get_or l i d) same) in
    let next : take (i + 1) xs ≡ take i xs ++ x ∷ [] = ap (λ k. take k xs) (add-one i) ∙ take-suc xs i d within ∙ ap (λ y. take i xs ++ y ∷ []) at in
    h ∙ ap (λ k. so_far ++ 10 ∷ spaced (k x)) alike ∙ ap (λ l. l ++ 10 ∷ spaced (f x)) e
    ∙ append_assoc old (lines_below (map f (take i xs))) (10 ∷ spaced (f x))
    ∙ ap (λ l. old ++ l) (sym (ap (λ l. lines_below (map f l)) next ∙ lines_of_more f (take i xs) x))

-- with one more number, what is left behind it makes the same whole
pub next_number : (whole so_far new : List ℕ) (xs : List ℤ) (i : ℕ) (n : ℤ) → i < length xs → n ≡ get_or xs i (pos 0) → so_far ++ behind_spaces (number_words (drop i xs)) ≡ whole → new ≡ so_far ++ 32 ∷ signed_decimal n → new ++ behind_spaces (number_words (drop (i + 1) xs)) ≡ whole
next_number whole so_far new xs i n lt is had pushed =
    let left = behind_spaces (number_words (drop (i + 1) xs)) in
    let cut : drop i xs ≡ n ∷ drop (i + 1) xs = drop-cons xs i (pos 0) lt ∙ ap (λ m. m ∷ drop (suc i) xs) (sym is) ∙ ap (λ k. n ∷ drop k xs) (sym (add-one i)) in
    ap (λ l. l ++ left) pushed ∙ append_assoc so_far (32 ∷ signed_decimal n) left ∙ ap (λ l. so_far ++ behind_spaces (number_words l)) (sym cut) ∙ had

-- behind the last sort or the last list there is no name
pub no_list_left : (net : NetData) (sorts : List ListSort) (lists : List ℕ) (i : ℕ) → min (length sorts) (length lists) ≤ i → list_words net (drop i sorts) (drop i lists) ≡ []
unfolding list_words
no_list_left net [] lists zero past = refl
no_list_left net [] lists (suc i) past = refl
no_list_left net (s ∷ sorts) [] zero past = refl
no_list_left net (s ∷ sorts) [] (suc i) past = by (drop i sorts)
  where
    by : (left : List ListSort) → list_words net left [] ≡ []
    by [] = refl
    by (t ∷ left) = refl
no_list_left net (s ∷ sorts) (n ∷ lists) zero past = absurd (omega arith)
no_list_left net (s ∷ sorts) (n ∷ lists) (suc i) past = no_list_left net sorts lists i (omega arith)
