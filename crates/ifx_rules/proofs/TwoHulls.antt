-- The values of a function of two numbers at the corners of two ranges.
use Rattle.std.specs.Prelude.{◌≡◌, List, [], ◌∷◌, ◌++◌, map, flat_map, get_or, ℤ, pos}
use Rattle.std.proofs.Common.{refl, ap, ap₂, ◌∙◌, subst}
use Rattle.std.proofs.lemmas.List.{map-append}
use Rattle.part_rules.specs.Ranges.{corners_of, corner_values}
use Rattle.part_rules.proofs.RangesGrow.{Each}
use Rattle.ifx_rules.proofs.LineRanges.{each_unmapped}

-- the first and the second number of a corner
abbrev at_corner : (ℤ → ℤ → ℤ) → List ℤ → ℤ
at_corner f corner = f (get_or corner 0 (pos 0)) (get_or corner 1 (pos 0))

values_in_row : (f : ℤ → ℤ → ℤ) (x : ℤ) (ys : List ℤ) → map (at_corner f) (map (λ corner. x ∷ corner) (corners_of (ys ∷ []))) ≡ map (f x) ys
values_in_row f x [] = refl
values_in_row f x (y ∷ ys) = ap (λ vs. f x y ∷ vs) (values_in_row f x ys)

-- they are those of its rows, one behind the other
pub values_of_two : (f : ℤ → ℤ → ℤ) (xs ys : List ℤ) → corner_values (λ m. f (m 0) (m 1)) (xs ∷ ys ∷ []) ≡ flat_map (λ x. map (f x) ys) xs
values_of_two f [] ys = refl
values_of_two f (x ∷ xs) ys =
    map-append (at_corner f) (map (λ corner. x ∷ corner) (corners_of (ys ∷ []))) (flat_map (λ z. map (λ corner. z ∷ corner) (corners_of (ys ∷ []))) xs)
    ∙ ap₂ (λ us vs. us ++ vs) (values_in_row f x ys) (values_of_two f xs ys)

-- ---- what holds of each

each_split : {X : Type 0} (P : X → Type 0) (xs ys : List X) → Each P (xs ++ ys) → Each P xs × Each P ys
each_split P [] ys e = (tt, e)
each_split P (x ∷ xs) ys e =
    let s = each_split P xs ys e.1 in
    ((e.0, s.0), s.1)

each_row : (P : ℤ → Type 0) (f : ℤ → ℤ → ℤ) (xs ys : List ℤ) → Each P (flat_map (λ x. map (f x) ys) xs) → Each (λ x. Each (λ y. P (f x y)) ys) xs
each_row P f [] ys e = tt
each_row P f (x ∷ xs) ys e =
    let s = each_split P (map (f x) ys) (flat_map (λ x. map (f x) ys) xs) e in
    (each_unmapped P (f x) ys s.0, each_row P f xs ys s.1)

pub each_corner : (P : ℤ → Type 0) (f : ℤ → ℤ → ℤ) (xs ys : List ℤ) → Each P (corner_values (λ m. f (m 0) (m 1)) (xs ∷ ys ∷ [])) → Each (λ x. Each (λ y. P (f x y)) ys) xs
each_corner P f xs ys e = each_row P f xs ys (subst (Each P) (values_of_two f xs ys) e)
