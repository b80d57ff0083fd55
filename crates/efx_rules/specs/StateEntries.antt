-- How small the entry of a state Y is that is allowed.
use Rattle.std.specs.Prelude.{◌^◌, Bool, ◌&&◌, pos, ◌≤ℤ◌, ◌<ℤ◌, int_le, int_lt, Option, Some, None, if◌then◌else◌}
use Rattle.part_rules.specs.declared.bounds.Bounds.{Bounds}
use Rattle.efx_filters.specs.Formulas.{state_least, state_greatest}

-- bounds of an allowed entry of a state: the range isn't empty and lies between the ends of states, and the error is neither
-- negative nor above the cap
pub record IsState (b : Bounds) : Type 0 where
  pub low : state_least ≤ℤ b.lo
  pub ordered : b.lo ≤ℤ b.hi
  pub high : b.hi ≤ℤ state_greatest
  pub positive : pos 0 ≤ℤ b.err
  pub near : b.err <ℤ pos (2 ^ 56)

-- the same as a test
unfoldable pub is_state : Bounds → Bool
is_state b = int_le state_least b.lo && int_le b.lo b.hi && int_le b.hi state_greatest && int_le (pos 0) b.err && int_lt b.err (pos (2 ^ 56))

-- bounds, where they are small enough for a state
abbrev pub if_state : Bounds → Option Bounds
if_state b = if is_state b then Some b else None
