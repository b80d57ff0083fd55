-- Which bounds may stand in a certificate.
use Rattle.std.specs.Prelude.{ℕ, ◌-◌, ◌^◌, Bool, not, ◌&&◌, List, ℤ, pos, negsuc, int_le, Option, position}
use Rattle.part_rules.specs.declared.bounds.Bounds.{Bounds}

-- a number of an entry lies from -2^62 to 2^62
abbrev pub is_entry_number : ℤ → Bool
is_entry_number z = int_le (negsuc (2 ^ 62 - 1)) z && int_le z (pos (2 ^ 62))

-- an entry's range isn't empty, its error isn't negative and its numbers aren't too large
abbrev pub is_proper_entry : Bounds → Bool
is_proper_entry b = int_le b.lo b.hi && int_le (pos 0) b.err && is_entry_number b.lo && is_entry_number b.hi && is_entry_number b.err

-- the number of the first entry that isn't proper
abbrev pub first_improper : List Bounds → Option ℕ
first_improper entries = position (λ b. not (is_proper_entry b)) entries
