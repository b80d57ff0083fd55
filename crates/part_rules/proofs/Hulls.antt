-- The hull of a list of numbers: its least and its greatest number, and that numbers between two of the list lie in it.
use Rattle.std.specs.Prelude.{ℕ, zero, suc, ◌<◌, List, [], ◌∷◌, length, get_or, ℤ, pos, ◌≤ℤ◌}
use Rattle.std.proofs.Common.{refl, arith}
use Rattle.std.proofs.lemmas.Int.{fold-int_min_bounds, fold-int_max_bounds}
use Rattle.std.proofs.lemmas.List.Elements.{All-get_or}
use Rattle.fx_fraction.proofs.WholeNumbers.{int_le_trans}
use Rattle.part_rules.specs.Ranges.{least_among, greatest_among}

-- the least number is at most each of the list
pub least_among_below : (vs : List ℤ) (i : ℕ) → i < length vs → least_among vs ≤ℤ get_or vs i (pos 0)
least_among_below [] i h = absurd (omega arith)
least_among_below (v ∷ vs) zero h = (fold-int_min_bounds v vs _ refl).0
least_among_below (v ∷ vs) (suc i) h = All-get_or (λ x. least_among (v ∷ vs) ≤ℤ x) vs i (pos 0) (omega arith) (fold-int_min_bounds v vs _ refl).1

-- the greatest number is at least each of the list
pub greatest_among_above : (vs : List ℤ) (i : ℕ) → i < length vs → get_or vs i (pos 0) ≤ℤ greatest_among vs
greatest_among_above [] i h = absurd (omega arith)
greatest_among_above (v ∷ vs) zero h = (fold-int_max_bounds v vs _ refl).0
greatest_among_above (v ∷ vs) (suc i) h = All-get_or (λ x. x ≤ℤ greatest_among (v ∷ vs)) vs i (pos 0) (omega arith) (fold-int_max_bounds v vs _ refl).1

-- a number between two of the list lies in its hull
pub record IsInHull (vs : List ℤ) (v : ℤ) : Type 0 where
  pub low : least_among vs ≤ℤ v
  pub high : v ≤ℤ greatest_among vs

pub hull_holds : (vs : List ℤ) (i k : ℕ) (v : ℤ) → i < length vs → k < length vs → get_or vs i (pos 0) ≤ℤ v → v ≤ℤ get_or vs k (pos 0) → IsInHull vs v
hull_holds vs i k v p q low high = record {
  low = int_le_trans _ _ _ (least_among_below vs i p) low;
  high = int_le_trans _ _ _ high (greatest_among_above vs k q);
}
