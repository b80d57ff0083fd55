-- A whole number is within an error of 0 of itself, and so each of a range is within its bounds.
use Rattle.std.specs.Prelude.{ℤ, pos, ◌≤ℤ◌}
use Rattle.std.proofs.Common.{refl, arith}
use Rattle.fx_fraction.specs.Fraction.{whole, over, distance, AtMost, Same}
use Rattle.fx_fraction.proofs.Distances.{distance_self}
use Rattle.fx_fraction.proofs.Order.{AtMost_trans, AtMost-over, AtMost_of-Same}
use Rattle.fx_fraction.proofs.WholeNumbers.{int_le_refl}
use Rattle.part_rules.specs.declared.bounds.Bounds.{Bounds}
use Rattle.part_rules.specs.Entries.{IsSmall}
use Rattle.part_rules.specs.Within.{IsWithin}
use Rattle.part_rules.proofs.CornerHulls.{IsInside}

nothing : Same (whole (pos 0)) (over (pos 0) 65536)
unfolding whole over
nothing = refl

pub itself_within : (v : ℤ) → AtMost (distance (whole v) (whole v)) (over (pos 0) 65536)
itself_within v = AtMost_trans (distance (whole v) (whole v)) (whole (pos 0)) (over (pos 0) 65536) (AtMost_of-Same (distance (whole v) (whole v)) (whole (pos 0)) (distance_self (whole v))) (AtMost_of-Same (whole (pos 0)) (over (pos 0) 65536) nothing)

-- a whole number of a range is within its bounds of itself
pub whole_within : (b : Bounds) (v : ℤ) → pos 0 ≤ℤ b.err → IsInside b.lo b.hi v → IsWithin b v (whole v)
whole_within b v positive inside = record {
  low = inside.low;
  high = inside.high;
  near = AtMost_trans (distance (whole v) (whole v)) (over (pos 0) 65536) (over b.err 65536) (itself_within v) (AtMost-over (pos 0) b.err 65536 (omega arith) positive);
}

pub corner_within : (b : Bounds) → IsSmall b → IsWithin b b.lo (whole b.lo)
corner_within b small = whole_within b b.lo small.positive (record { low = int_le_refl b.lo; high = small.ordered })
