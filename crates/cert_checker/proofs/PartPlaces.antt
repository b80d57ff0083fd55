-- When a word is one of two pieces.
use Rattle.std.proofs.Common.{◌≡◌, ℕ, zero, suc, ◌-◌, ◌<◌, ◌≤◌, Bool, true, false, ◌&&◌, ◌==◌, List, [], ◌∷◌, ◌++◌, take, drop, length, bytes_eq, refl, sym, ap, ◌∙◌, arith}
use Rattle.std.proofs.lemmas.List.{length-drop}

and_assoc : (a b c : Bool) → ((a && b) && c) ≡ (a && (b && c))
and_assoc true b c = refl
and_assoc false b c = refl

-- a word begins with the first piece, and the second one is all that is left
joined : (front back word : List ℕ) → length front ≤ length word → (bytes_eq front (take (length front) word) && bytes_eq back (drop (length front) word)) ≡ bytes_eq (front ++ back) word
joined [] back word h = refl
joined (x ∷ front) back [] h = absurd (omega arith)
joined (x ∷ front) back (y ∷ word) h =
    and_assoc (x == y) (bytes_eq front (take (length front) word)) (bytes_eq back (drop (length front) word))
    ∙ ap (λ t. (x == y) && t) (joined front back word (omega arith))

pub joined_short : (front back word : List ℕ) → length word < length front → false ≡ bytes_eq (front ++ back) word
joined_short [] back word h = absurd (omega arith)
joined_short (x ∷ front) back [] h = refl
joined_short (x ∷ front) back (y ∷ word) h =
    sym (and_false (x == y)) ∙ ap (λ t. (x == y) && t) (joined_short front back word (omega arith))
  where
    and_false : (a : Bool) → (a && false) ≡ false
    and_false true = refl
    and_false false = refl

pub joined_differs : (front back word : List ℕ) → length front ≤ length word → bytes_eq front (take (length front) word) ≡ false → false ≡ bytes_eq (front ++ back) word
joined_differs front back word h e = sym (ap (λ t. t && bytes_eq back (drop (length front) word)) e) ∙ joined front back word h

-- all of a text is left of it where nothing is cut off
take_enough : (xs : List ℕ) (k : ℕ) → length xs ≤ k → take k xs ≡ xs
take_enough [] zero h = refl
take_enough [] (suc k) h = refl
take_enough (x ∷ xs) zero h = absurd (omega arith)
take_enough (x ∷ xs) (suc k) h = ap (λ t. x ∷ t) (take_enough xs k (omega arith))

pub joined_rest : (front back word : List ℕ) → length front ≤ length word → bytes_eq front (take (length front) word) ≡ true → bytes_eq back (take (length word - length front) (drop (length front) word)) ≡ bytes_eq (front ++ back) word
joined_rest front back word h e =
    let rest = take_enough (drop (length front) word) (length word - length front) (omega (arith, length-drop (length front) word)) in
    ap (bytes_eq back) rest ∙ sym (ap (λ t. t && bytes_eq back (drop (length front) word)) e) ∙ joined front back word h
