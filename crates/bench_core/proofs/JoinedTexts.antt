-- Texts that are put together by `concat`.
use Rattle.std.proofs.Common.{◌≡◌, ℕ, List, [], ◌∷◌, Result, Ok, Err, IfOk, refl, ◌∙◌, ap₂}
use Rattle.std.specs.List.{AllZip}

-- bytes that are clones of others are those
all_same : (xs ys : List ℕ) → AllZip (λ x y. y ≡ x) xs ys → ys ≡ xs
all_same [] [] h = refl
all_same [] (y ∷ ys) h = absurd h
all_same (x ∷ xs) [] h = absurd h
all_same (x ∷ xs) (y ∷ ys) h = ap₂ (λ b bs. b ∷ bs) h.0 (all_same xs ys h.1)

-- a text that was put together has the bytes of its pieces
pub joined_is : {V E : Type 0} (items : V → List ℕ) (r : Result V E) (pieces bytes : List ℕ) → IfOk r (λ v. AllZip (λ x y. y ≡ x) pieces (items v)) → pieces ≡ bytes → IfOk r (λ v. items v ≡ bytes)
joined_is items (Ok v) pieces bytes h e = all_same pieces (items v) h ∙ e
joined_is items (Err x) pieces bytes h e = tt
