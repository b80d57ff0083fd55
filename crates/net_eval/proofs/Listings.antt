-- Lists of what a function gives for each number below n.
use Rattle.std.proofs.Common.{◌≡◌, ℕ, zero, suc, ◌+◌, ◌<◌, List, [], ◌∷◌, ◌++◌, map, length, drop, get_or, set, take, refl, ap, ap₂, ◌∙◌, sym, arith, add-one}
use Rattle.std.specs.List.{range_with_len}
use Rattle.std.proofs.lemmas.List.{take_more_set}
use Rattle.std.proofs.Math.Seq.{take-append_seam}
use Rattle.std.proofs.lemmas.List.FromFn.{map-range_with_len_more, get_or-map-range_with_len}

module _ {X : Type 0} (f : ℕ → X) where
  -- one more
  pub list_push : (xs : List X) (x : X) (n : ℕ) → xs ≡ map f (range_with_len 0 n) → x ≡ f n → xs ++ x ∷ [] ≡ map f (range_with_len 0 (n + 1))
  list_push xs x n e h = ap₂ (λ l y. l ++ y ∷ []) e h ∙ sym (map-range_with_len_more f 0 n n (omega arith))

  -- one more at the place where it stands
  pub list_set : (xs : List X) (x : X) (n : ℕ) → n < length xs → take n xs ≡ map f (range_with_len 0 n) → x ≡ f n → take (n + 1) (set xs n x) ≡ map f (range_with_len 0 (n + 1))
  list_set xs x n lt e h = take_more_set xs n x lt ∙ list_push (take n xs) x n e h

  -- number k
  pub list_at : (n k : ℕ) (d : X) → k < n → get_or (map f (range_with_len 0 n)) k d ≡ f k
  list_at n k d lt = get_or-map-range_with_len f 0 n k k d lt (omega arith)

-- two functions that agree below n give the same list
pub list_same : {X : Type 0} (f g : ℕ → X) (n : ℕ) → ((k : ℕ) → k < n → f k ≡ g k) → map f (range_with_len 0 n) ≡ map g (range_with_len 0 n)
list_same f g zero same = refl
list_same f g (suc n) same =
    ap (λ m. map f (range_with_len 0 m)) (sym (add-one n))
    ∙ map-range_with_len_more f 0 n n (omega arith)
    ∙ list_push g (map f (range_with_len 0 n)) (f n) n (list_same f g n (λ k lt. same k (omega (arith, lt)))) (same n (omega arith))
    ∙ ap (λ m. map g (range_with_len 0 m)) (add-one n)

-- a `Vec` that was lent as a slice and written whole
pub written_back : {X : Type 0} (new old : List X) (n : ℕ) → length new ≡ n → take n (new ++ drop (length new) old) ≡ new
written_back new old n e = ap (λ m. take m (new ++ drop (length new) old)) (sym e) ∙ take-append_seam new (drop (length new) old)
