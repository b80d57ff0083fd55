-- Going over a list from the front: nothing comes twice where no element is the same as one before it.
use Rattle.std.proofs.Common.{◌≡◌, ℕ, suc, ◌+◌, ◌<◌, ◌≤◌, Bool, true, false, not, ◌&&◌, ◌||◌, List, [], ◌∷◌, ◌++◌, length, get_or, take, drop, ◌^◌, refl, sym, ap, ap₂, ◌∙◌, arith, add-one, drop-cons, drop_of_length-le, take-suc, eqb-true, eq-eqb, ◌==◌}
use Rattle.std.specs.Prelude.{bytes_eq}
use Rattle.std.specs.List.{list_any}
use Rattle.std.proofs.lemmas.List.Folds.{list_any-append}
use Rattle.std.proofs.lemmas.Slice.Eq.{bytes_eq-Decides}
use Rattle.net_model.specs.declared.wires.WireNo.{WireNo}
use Rattle.net_model.specs.declared.wires.Wire.{Wire}
use Rattle.net_model.specs.Wires.{NetData}
use Rattle.net_model.proofs.ValidityFacts.{length-valid}
use Rattle.net_model.specs.Validity.{IsValid}

-- no element is the same as one behind it
unfoldable pub distinct : {X : Type 0} → (X → X → Bool) → List X → Bool
distinct same [] = true
distinct same (x ∷ xs) = not (list_any (same x) xs) && distinct same xs

-- no element is the same as one before it, or as one of those that were seen
unfoldable pub new_from : {X : Type 0} → (X → X → Bool) → List X → List X → Bool
new_from same seen [] = true
new_from same seen (x ∷ xs) = not (list_any (same x) seen) && new_from same (seen ++ x ∷ []) xs

-- no element is the same as one of those that were seen
unfoldable pub apart : {X : Type 0} → (X → X → Bool) → List X → List X → Bool
apart same seen [] = true
apart same seen (x ∷ xs) = not (list_any (same x) seen) && apart same seen xs

-- each element passes the test of its place
unfoldable pub good_from : {X : Type 0} → (ℕ → X → Bool) → ℕ → List X → Bool
good_from good i [] = true
good_from good i (x ∷ xs) = good i x && good_from good (i + 1) xs

-- how tests are regrouped
regroup_seen : (a s b d : Bool) → (not (a || (s || false)) && (b && not d)) ≡ ((not a && b) && not (s || d))
regroup_seen true s b d = refl
regroup_seen false true true d = refl
regroup_seen false true false d = refl
regroup_seen false false true d = refl
regroup_seen false false false d = refl

regroup_four : (n b e d : Bool) → (n && ((b && e) && d)) ≡ ((n && b) && (e && d))
regroup_four true true e d = refl
regroup_four true false e d = refl
regroup_four false b e d = refl

regroup_pairs : (a b c d : Bool) → ((a && b) && (c && d)) ≡ ((a && c) && (b && d))
regroup_pairs true b true d = refl
regroup_pairs true true false d = refl
regroup_pairs true false false d = refl
regroup_pairs false b c d = refl

and_comm : (a b : Bool) → (a && b) ≡ (b && a)
and_comm true true = refl
and_comm true false = refl
and_comm false true = refl
and_comm false false = refl

apart-push : {X : Type 0} (same : X → X → Bool) → ((x y : X) → same x y ≡ same y x) → (seen : List X) (x : X) (ys : List X) → apart same (seen ++ x ∷ []) ys ≡ (apart same seen ys && not (list_any (same x) ys))
unfolding apart
apart-push same swap seen x [] = refl
apart-push same swap seen x (y ∷ ys) =
    ap₂ (λ t u. not t && u) (list_any-append (same y) seen (x ∷ []) ∙ ap (λ s. list_any (same y) seen || (s || false)) (swap y x)) (apart-push same swap seen x ys)
    ∙ regroup_seen (list_any (same y) seen) (same x y) (apart same seen ys) (list_any (same x) ys)

pub new_from-is : {X : Type 0} (same : X → X → Bool) → ((x y : X) → same x y ≡ same y x) → (seen xs : List X) → new_from same seen xs ≡ (apart same seen xs && distinct same xs)
unfolding apart distinct new_from
new_from-is same swap seen [] = refl
new_from-is same swap seen (x ∷ xs) =
    ap (λ t. not (list_any (same x) seen) && t) (new_from-is same swap (seen ++ x ∷ []) xs ∙ ap (λ t. t && distinct same xs) (apart-push same swap seen x xs))
    ∙ regroup_four (not (list_any (same x) seen)) (apart same seen xs) (not (list_any (same x) xs)) (distinct same xs)

pub apart-nil : {X : Type 0} (same : X → X → Bool) (xs : List X) → apart same [] xs ≡ true
unfolding apart
apart-nil same [] = refl
apart-nil same (x ∷ xs) = apart-nil same xs

-- what is left to test at place i, with the elements before it seen
pub remains : {X : Type 0} → (X → X → Bool) → (ℕ → X → Bool) → List X → ℕ → Bool
remains same good xs i = new_from same (take i xs) (drop i xs) && good_from good i (drop i xs)

-- the test at place i
abbrev pub sound_at : {X : Type 0} → (X → X → Bool) → (ℕ → X → Bool) → X → List X → ℕ → Bool
sound_at same good d xs i = not (list_any (same (get_or xs i d)) (take i xs)) && good i (get_or xs i d)

pub remains-zero : {X : Type 0} (same : X → X → Bool) (good : ℕ → X → Bool) → ((x y : X) → same x y ≡ same y x) → (xs : List X) → remains same good xs 0 ≡ (distinct same xs && good_from good 0 xs)
unfolding remains
remains-zero same good swap xs =
    ap (λ t. t && good_from good 0 xs) (new_from-is same swap [] xs ∙ ap (λ t. t && distinct same xs) (apart-nil same xs))

pub remains-step : {X : Type 0} (same : X → X → Bool) (good : ℕ → X → Bool) (d : X) (xs : List X) (i : ℕ) → i < length xs → remains same good xs i ≡ (sound_at same good d xs i && remains same good xs (i + 1))
unfolding remains new_from good_from
remains-step same good d xs i lt =
    let next : i + 1 ≡ suc i = add-one i in
    let front : take (i + 1) xs ≡ take i xs ++ get_or xs i d ∷ [] = ap (λ k. take k xs) next ∙ take-suc xs i d lt in
    let back : drop i xs ≡ get_or xs i d ∷ drop (i + 1) xs = drop-cons xs i d lt ∙ ap (λ k. get_or xs i d ∷ drop k xs) (sym next) in
    ap (λ t. new_from same (take i xs) t && good_from good i t) back
    ∙ regroup_pairs (not (list_any (same (get_or xs i d)) (take i xs))) (new_from same (take i xs ++ get_or xs i d ∷ []) (drop (i + 1) xs)) (good i (get_or xs i d)) (good_from good (i + 1) (drop (i + 1) xs))
    ∙ ap (λ t. sound_at same good d xs i && (new_from same t (drop (i + 1) xs) && good_from good (i + 1) (drop (i + 1) xs))) (sym front)

pub remains-end : {X : Type 0} (same : X → X → Bool) (good : ℕ → X → Bool) (xs : List X) (i : ℕ) → length xs ≤ i → remains same good xs i ≡ true
unfolding remains new_from good_from
remains-end same good xs i past = ap (λ t. new_from same (take i xs) t && good_from good i t) (drop_of_length-le xs past)

-- the order of two lists of bytes doesn't matter where they are compared
pub same_tests : (a b : Bool) → (a ≡ true → b ≡ true) → (b ≡ true → a ≡ true) → a ≡ b
same_tests true b there back = sym (there refl)
same_tests false true there back = back refl
same_tests false false there back = refl

pub bytes_eq_comm : (xs ys : List ℕ) → bytes_eq xs ys ≡ bytes_eq ys xs
bytes_eq_comm xs ys =
    same_tests _ _ (λ h. (bytes_eq-Decides ys xs).1 (sym ((bytes_eq-Decides xs ys).0 h))) (λ h. (bytes_eq-Decides xs ys).1 (sym ((bytes_eq-Decides ys xs).0 h)))

-- two wires have one name
unfoldable pub same_name : Wire → Wire → Bool
same_name v w = bytes_eq v.name w.name

pub same_name_comm : (v w : Wire) → same_name v w ≡ same_name w v
unfolding same_name
same_name_comm v w = bytes_eq_comm v.name w.name

-- two numbers are of one wire
unfoldable pub same_number : WireNo → WireNo → Bool
same_number m n = m.0 == n.0

pub same_number_comm : (m n : WireNo) → same_number m n ≡ same_number n m
unfolding same_number
same_number_comm m n =
    same_tests (m.0 == n.0) (n.0 == m.0) (λ h. eq-eqb n.0 m.0 (sym (eqb-true m.0 n.0 h))) (λ h. eq-eqb m.0 n.0 (sym (eqb-true n.0 m.0 h)))

-- numbers of wires fit 32 bits
le_lt_512 : (n : ℕ) → n ≤ 512 → n < 2 ^ 32
le_lt_512 n h = omega arith

pub few_valid : (net : NetData) → IsValid net → length net.wires < 2 ^ 32
few_valid net valid = le_lt_512 (length net.wires) (length-valid net valid)
