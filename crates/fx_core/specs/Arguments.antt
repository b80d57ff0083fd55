-- Two and three things as a routine's arguments, by their numbers from 0. What stands behind the last isn't looked at.
use Rattle.std.specs.Prelude.{ℕ, zero, suc}

-- two arguments
abbrev pub two : {A : Type 0} → A → A → ℕ → A
two x y zero = x
two x y (suc p) = y

-- three arguments
abbrev pub three : {A : Type 0} → A → A → A → ℕ → A
three x y z zero = x
three x y z (suc zero) = y
three x y z (suc (suc p)) = z
