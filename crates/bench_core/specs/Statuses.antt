-- The numbers that the program ends with: for the clauses of private functions alone.
use Rattle.std.specs.Prelude.{ℕ, Bool, ◌&&◌, ◌||◌, nat_lt, IsTrue}

-- a status that only the words, the files' bytes and their meaning decide: one of 3 to 6 and 9 to 12
abbrev pub is_refusal : ℕ → Bool
is_refusal status = (nat_lt 2 status && nat_lt status 7) || (nat_lt 8 status && nat_lt status 13)

-- the same as a statement
abbrev pub IsRefusalStatus : ℕ → Type 0
IsRefusalStatus status = IsTrue (is_refusal status)
