-- Lines of texts joined by commas, one text after another.
use Rattle.std.proofs.Common.{◌≡◌, ℕ, zero, suc, ◌+◌, ◌<◌, ◌≤◌, List, [], ◌∷◌, ◌++◌, map, length, take, get_or, refl, sym, ap, ◌∙◌, arith, append_assoc, append-nil}
use Rattle.std.proofs.lemmas.List.{take_more, take_all, length-take, map-append, length-map}
use Rattle.bench_core.specs.PrintedRuns.{behind, behind_commas, joined}

behind_commas_push : (pieces : List (List ℕ)) (piece : List ℕ) → behind_commas (pieces ++ piece ∷ []) ≡ behind_commas pieces ++ 44 ∷ piece
behind_commas_push [] piece = ap (λ l. 44 ∷ l) (append-nil piece)
behind_commas_push (p ∷ pieces) piece =
    ap (λ l. 44 ∷ p ++ l) (behind_commas_push pieces piece) ∙ ap (λ l. 44 ∷ l) (sym (append_assoc p (behind_commas pieces) (44 ∷ piece)))

behind_some : (n : ℕ) (piece : List ℕ) → 0 < n → behind n piece ≡ 44 ∷ piece
behind_some zero piece h = absurd (omega arith)
behind_some (suc n) piece h = refl

joined_push : (pieces : List (List ℕ)) (piece : List ℕ) → joined (pieces ++ piece ∷ []) ≡ joined pieces ++ behind (length pieces) piece
joined_push [] piece = append-nil piece
joined_push (p ∷ pieces) piece =
    ap (λ l. p ++ l) (behind_commas_push pieces piece) ∙ sym (append_assoc p (behind_commas pieces) (44 ∷ piece)) ∙ ap (λ l. (p ++ behind_commas pieces) ++ l) (sym (behind_some (length (p ∷ pieces)) piece (omega arith)))

-- text number i stands behind those before it
pub pieces_step : {A : Type 0} (text : A → List ℕ) (items : List A) (i : ℕ) (d : A) → i < length items → joined (map text (take (i + 1) items)) ≡ joined (map text (take i items)) ++ behind i (text (get_or items i d))
pieces_step text items i d lt =
    let n : length (map text (take i items)) ≡ i = omega (arith, length-map (take i items) text, length-take i items, lt) in
    ap (λ l. joined (map text l)) (take_more items i d lt) ∙ ap joined (map-append text (take i items) (get_or items i d ∷ [])) ∙ joined_push (map text (take i items)) (text (get_or items i d)) ∙ ap (λ k. joined (map text (take i items)) ++ behind k (text (get_or items i d))) n

-- behind the last text stand all
pub pieces_end : {A : Type 0} (text : A → List ℕ) (items : List A) (i : ℕ) → length items ≤ i → joined (map text (take i items)) ≡ joined (map text items)
pieces_end text items i le = ap (λ l. joined (map text l)) (take_all i items le)
