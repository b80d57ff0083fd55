-- What is still to be written of a piece.
use Rattle.std.proofs.Common.{◌≡◌, ℕ, List, ◌++◌}
use Rattle.std.specs.Prelude.{Some, None, ⊤}
use Rattle.std.specs.declared.option.Option.{Option}

-- what was written so far and then the rest is what there was and then the piece, where that is known
abbrev pub Awaits : Option (List ℕ) → Option (List ℕ) → List ℕ → List ℕ → Type 0
Awaits None now rest piece = ⊤
Awaits (Some xs) None rest piece = ⊥
Awaits (Some xs) (Some ys) rest piece = ys ++ rest ≡ xs ++ piece
