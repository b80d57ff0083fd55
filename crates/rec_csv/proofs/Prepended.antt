-- A list so far, and what is made of the rest of it, up to a fault.
use Rattle.std.proofs.Common.{◌≡◌, List, [], ◌∷◌, ◌++◌, refl, sym, ap, append_assoc, Result, Ok, Err}
use Rattle.text_words.specs.Steps.{◌>>=◌}

-- what is made of the rest, behind those so far
abbrev pub prepended : {X E : Type 0} → List X → Result (List X) E → Result (List X) E
prepended before (Ok made) = Ok (before ++ made)
prepended before (Err fault) = Err fault

-- one more of them
pub one_more : {X E : Type 0} (before : List X) (x : X) (rest : Result (List X) E) → prepended before (rest >>= (λ made. Ok (x ∷ made))) ≡ prepended (before ++ x ∷ []) rest
one_more before x (Ok made) = ap (λ l. Ok l) (sym (append_assoc before (x ∷ []) made))
one_more before x (Err fault) = refl
