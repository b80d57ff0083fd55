-- What bounds say of a value of the machine and of one in exact fractions.
use Rattle.std.specs.Prelude.{ℤ, pos, ◌≤ℤ◌}
use Rattle.fx_fraction.specs.Fraction.{Fraction, whole, over, distance, AtMost}
use Rattle.part_rules.specs.declared.bounds.Bounds.{Bounds}

-- the bounds that are read where there are none
abbrev pub no_bounds : Bounds
no_bounds = record { lo = pos 0; hi = pos 0; err = pos 0 }

-- a value of the machine and one in exact fractions are within bounds
pub record IsWithin (b : Bounds) (m : ℤ) (e : Fraction) : Type 0 where
  -- the machine's value isn't below the range
  pub low : b.lo ≤ℤ m
  -- nor is it above
  pub high : m ≤ℤ b.hi
  -- it differs from the exact value by at most the error, which is in units of 1/65536 of a raw count
  pub near : AtMost (distance (whole m) e) (over b.err 65536)
