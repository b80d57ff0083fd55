-- The rules of the filters: the bounds of a value or of a state, from those of what it reads. Ranges are the hull of the
-- rounded values at all corners, and errors are in units of 1/65536 of a raw count; those of a state Y are so too, whose
-- raw count has 16 fractional bits.
use Rattle.std.specs.Prelude.{ℕ, ◌-◌, Bool, ℤ, pos, ◌+ℤ◌, ◌*ℤ◌, unsigned_abs, if◌then◌else◌}
use Rattle.std.specs.Int.{int_min, int_max}
use Rattle.std.specs.Ordering.{int_eq}
use Rattle.fx_fraction.specs.Fraction.{whole, minus}
use Rattle.fx_core.specs.declared.quotient.Mode.TheVariants.{Near}
use Rattle.fx_core.specs.Rounding.{least_quotient_above}
use Rattle.fx_core.specs.Values.{rounded_fraction}
use Rattle.part_rules.specs.declared.bounds.Bounds.{Bounds}
use Rattle.part_rules.specs.Ranges.{corner_values, ends_of, hull_of}
use Rattle.efx_filters.specs.Formulas.{gain_formula, lag_formula, value_formula}

-- half a raw count: what rounding to the nearest moves at most
abbrev pub half_count : ℤ
half_count = pos 32768

-- the hull of a function's values at all corners of n ranges, with an error
abbrev pub hull_bounds : ((ℕ → ℤ) → ℤ) → ℕ → (ℕ → Bounds) → ℤ → Bounds
hull_bounds value n given err = hull_of (corner_values value (ends_of n given)) err

-- ---- a proportional block

-- its value at whole numbers, rounded and not saturated
unfoldable pub gain_rounded : ℤ → (ℕ → ℤ) → ℤ
gain_rounded k m = rounded_fraction Near (gain_formula k (whole (m 0)))

-- a gain is a whole number: 65536 divides it
abbrev pub is_whole_gain : ℤ → Bool
is_whole_gain k = int_eq (least_quotient_above k (pos 65536) *ℤ pos 65536) k

-- the error: the input's times the gain, rounded up, with one rounding more unless the gain is a whole number
unfoldable pub gain_error : ℤ → ℤ → ℤ
gain_error k err =
    let through = least_quotient_above (pos (unsigned_abs k) *ℤ err) (pos 65536) in
    if is_whole_gain k then through else through +ℤ half_count

-- the bounds of its value, from those of its input
unfoldable pub gain_bounds : ℤ → (ℕ → Bounds) → Bounds
gain_bounds k given = hull_bounds (gain_rounded k) 1 given (gain_error k (given 0).err)

-- ---- lags

-- the state of a lag at whole numbers, the old state and what drives it, rounded and not saturated
unfoldable pub lag_rounded : ℕ → ℤ → (ℕ → ℤ) → ℤ
lag_rounded teq k m = rounded_fraction Near (lag_formula teq k (whole (m 0)) (whole (m 1)))

-- the error of a lag's state: those of the old state and of what drives it, by their weights, rounded up, and one rounding
unfoldable pub lag_error : ℕ → ℤ → ℤ → ℤ → ℤ
lag_error teq k old drive =
    least_quotient_above (pos teq *ℤ old +ℤ pos (65536 - teq) *ℤ pos (unsigned_abs k) *ℤ drive) (pos 65536) +ℤ half_count

-- the bounds of a lag's state, from those of the old state and of what drives it
unfoldable pub lag_bounds : ℕ → ℤ → (ℕ → Bounds) → Bounds
lag_bounds teq k given = hull_bounds (lag_rounded teq k) 2 given (lag_error teq k (given 0).err (given 1).err)

-- the state of a lag that a difference drives, at whole numbers: the old state and the two inputs
unfoldable pub difference_rounded : ℕ → ℤ → (ℕ → ℤ) → ℤ
difference_rounded teq k m = rounded_fraction Near (lag_formula teq k (whole (m 0)) (minus (whole (m 1)) (whole (m 2))))

-- the bounds of such a state, from those of the old state and of the two inputs
unfoldable pub difference_bounds : ℕ → ℤ → (ℕ → Bounds) → Bounds
difference_bounds teq k given =
    hull_bounds (difference_rounded teq k) 3 given (lag_error teq k (given 0).err ((given 1).err +ℤ (given 2).err))

-- ---- the value of a block with a state

-- its value at a whole state, rounded and not saturated
unfoldable pub value_rounded : (ℕ → ℤ) → ℤ
value_rounded m = rounded_fraction Near (value_formula (whole (m 0)))

-- its bounds, from those of the state
unfoldable pub value_bounds : (ℕ → Bounds) → Bounds
value_bounds given = hull_bounds value_rounded 1 given (least_quotient_above (given 0).err (pos 65536) +ℤ half_count)

-- ---- averages

-- the bounds of an average, from those of the input and of the window
unfoldable pub average_bounds : (ℕ → Bounds) → Bounds
average_bounds given = record {
  lo = int_min (given 0).lo (given 1).lo;
  hi = int_max (given 0).hi (given 1).hi;
  err = int_max (given 0).err (given 1).err +ℤ half_count;
}
