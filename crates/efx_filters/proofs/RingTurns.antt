-- What a ring holds, in its order.
use Rattle.std.proofs.Common.{◌≡◌, ℕ, ◌-◌, ◌≤◌, ℤ, pos, List, ◌++◌, length, drop, take, replicate, ap, ap₂, ◌∙◌, arith}
use Rattle.std.proofs.lemmas.List.{drop-replicate, length-append, length-drop, length-take-le, replicate-append-replicate, take-replicate}

-- zeros are zeros from any place on
pub zeros_turned : (place : ℕ) (slots zeros : List ℤ) → place ≤ length slots → zeros ≡ replicate (length slots) (pos 0) → drop place zeros ++ take place zeros ≡ replicate (length (drop place slots ++ take place slots)) (pos 0)
zeros_turned place slots zeros within e = rw e (
    ap₂ (λ xs ys. xs ++ ys) (drop-replicate place (length slots) (pos 0)) (take-replicate place (length slots) (pos 0) within)
    ∙ replicate-append-replicate (length slots - place) place (pos 0)
    ∙ ap (λ n. replicate n (pos 0)) (omega (arith, length-append (drop place slots) (take place slots), length-drop place slots, length-take-le place slots within))
    )
