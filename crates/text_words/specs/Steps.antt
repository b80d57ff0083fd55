-- Steps in their order, of which the first that fails ends all.
use Rattle.std.specs.Prelude.{Bool, true, false, Result, Ok, Err}

infixl 10 ◌>>=◌
-- what comes next, unless there is a fault
abbrev pub ◌>>=◌ : {A B E : Type 0} → Result A E → (A → Result B E) → Result B E
Ok value >>= next = next value
Err fault >>= next = Err fault

-- the fault, unless the test holds
abbrev pub demand : {E : Type 0} → Bool → E → Result (Unit {0}) E
demand true fault = Ok tt
demand false fault = Err fault
