-- How small an entry is that is allowed.
use Rattle.std.specs.Prelude.{◌^◌, Bool, ◌&&◌, pos, negsuc, ◌≤ℤ◌, ◌<ℤ◌, int_le, int_lt, Option, Some, None, if◌then◌else◌}
use Rattle.part_rules.specs.declared.bounds.Bounds.{Bounds}

-- bounds of an allowed entry, whatever its part: the range isn't empty and lies between the ends of all types, and the
-- error is neither negative nor above the largest cap
pub record IsSmall (b : Bounds) : Type 0 where
  pub low : negsuc 2147483647 ≤ℤ b.lo
  pub ordered : b.lo ≤ℤ b.hi
  pub high : b.hi ≤ℤ pos 4294967295
  pub positive : pos 0 ≤ℤ b.err
  pub near : b.err <ℤ pos (2 ^ 40)

-- the same as a test
unfoldable pub is_small : Bounds → Bool
is_small b = int_le (negsuc 2147483647) b.lo && int_le b.lo b.hi && int_le b.hi (pos 4294967295) && int_le (pos 0) b.err && int_lt b.err (pos (2 ^ 40))

-- bounds, where they are small
abbrev pub if_small : Bounds → Option Bounds
if_small b = if is_small b then Some b else None
