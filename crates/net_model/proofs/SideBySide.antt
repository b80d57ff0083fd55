-- Lists of different lengths fail a test that goes over both.
use Rattle.std.proofs.Common.{◌≡◌, ◌≢◌, Bool, true, false, ◌&&◌, List, [], ◌∷◌, length, suc, refl, ap, ◌∙◌, arith}
use Rattle.std.proofs.lemmas.Bool.{and_parts}
use Rattle.net_model.specs.BlockForms.{both}

and_false : (a : Bool) → (a && false) ≡ false
and_false true = refl
and_false false = refl

pub other_count : {A B : Type 0} (test : A → B → Bool) (xs : List A) (ys : List B) → length xs ≢ length ys → both test xs ys ≡ false
other_count test [] [] h = absurd (h refl)
other_count test (a ∷ xs) [] h = refl
other_count test [] (b ∷ ys) h = refl
other_count test (a ∷ xs) (b ∷ ys) h = ap (λ t. test a b && t) (other_count test xs ys (λ e. h (omega arith))) ∙ and_false (test a b)

-- there are as many of both
pub same_lengths : {A B : Type 0} (test : A → B → Bool) (xs : List A) (ys : List B) → both test xs ys ≡ true → length xs ≡ length ys
same_lengths test [] [] h = refl
same_lengths test (x ∷ xs) [] h = absurd (cc)
same_lengths test [] (y ∷ ys) h = absurd (cc)
same_lengths test (x ∷ xs) (y ∷ ys) h = ap suc (same_lengths test xs ys (and_parts (test x y) (both test xs ys) h).1)
