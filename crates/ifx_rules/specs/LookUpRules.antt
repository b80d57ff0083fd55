-- The rules of the search, of curves and of curves over an axis: the bounds of a value from those of what is read. Ranges are the
-- hull of the rounded values at all corners, and errors are in units of 1/65536 of a raw count.
use Rattle.std.specs.Prelude.{ℕ, zero, suc, ◌*◌, ◌-◌, List, [], ◌∷◌, map, length, min, ℤ, pos, ◌+ℤ◌, ◌-ℤ◌, ◌*ℤ◌, unsigned_abs}
use Rattle.std.specs.List.{range_with_len}
use Rattle.fx_fraction.specs.Fraction.{Fraction, whole}
use Rattle.fx_core.specs.declared.quotient.Mode.TheVariants.{Floor}
use Rattle.fx_core.specs.Rounding.{least_quotient_above}
use Rattle.fx_core.specs.Values.{rounded_fraction}
use Rattle.part_rules.specs.declared.bounds.Bounds.{Bounds}
use Rattle.part_rules.specs.Ranges.{corner_values, corners_at, hull_of}
use Rattle.part_rules.specs.Units.{one_count}
use Rattle.ifx_search.specs.Axes.{point_at}
use Rattle.ifx_search.specs.Positions.{position}
use Rattle.ifx_curves.specs.Curves.{curve}
use Rattle.ifx_curves.specs.Slopes.{step_of, slope_of}

-- ---- ranges

-- a function of fractions at a whole number, rounded downward
abbrev pub rounded_down : (Fraction → Fraction) → ℤ → ℤ
rounded_down value z = rounded_fraction Floor (value (whole z))

-- the hull of the values of a function that bends at these points, at the corners of one range, with an error
abbrev pub hull_at : (Fraction → Fraction) → List ℤ → Bounds → ℤ → Bounds
hull_at value points b err = hull_of (corner_values (λ m. rounded_down value (m 0)) (corners_at b points ∷ [])) err

-- ---- errors

-- how far what is nowhere steeper than rise / run moves at most: the argument's error times that, rounded up
abbrev pub slope_move : ℤ → ℤ → ℤ → ℤ
slope_move rise run err = least_quotient_above (rise *ℤ err) run

-- its error: that, and one rounding
abbrev pub slope_error : ℤ → ℤ → ℤ → ℤ
slope_error rise run err = slope_move rise run err +ℤ one_count

-- the distance from point i to the next
abbrev pub gap_at : List ℤ → ℕ → ℕ
gap_at points i = unsigned_abs (point_at points (suc i) -ℤ point_at points i)

-- the least of the first n + 1 such distances
unfoldable pub least_of_gaps : List ℤ → ℕ → ℕ
least_of_gaps points zero = gap_at points 0
least_of_gaps points (suc n) = min (least_of_gaps points n) (gap_at points (suc n))

-- the least distance of neighbours on an axis
abbrev pub gap_of : List ℤ → ℕ
gap_of points = least_of_gaps points (length points - 2)

-- ---- the rules

-- the bounds of a position on these points, from those of the number
unfoldable pub position_bounds : List ℤ → (ℕ → Bounds) → Bounds
position_bounds points given = hull_at (position points) points (given 0) (slope_error (pos 65536) (pos (gap_of points)) (given 0).err)

-- the positions at which a curve through n values bends
abbrev pub whole_positions : ℕ → List ℤ
whole_positions n = map (λ i. pos (65536 * i)) (range_with_len 0 n)

-- the bounds of a curve through these values, from those of the position
unfoldable pub curve_bounds : List ℤ → (ℕ → Bounds) → Bounds
curve_bounds values given = hull_at (curve values) (whole_positions (length values)) (given 0) (slope_error (pos (step_of values)) (pos 65536) (given 0).err)

-- a curve over an axis: at the position of a number, which isn't rounded
abbrev pub curve_over : List ℤ → List ℤ → Fraction → Fraction
curve_over points values x = curve values (position points x)

-- its bounds, from those of the number
unfoldable pub curve_over_bounds : List ℤ → List ℤ → (ℕ → Bounds) → Bounds
curve_over_bounds points values given =
    let slope = slope_of points values in
    hull_at (curve_over points values) points (given 0) (slope_error (pos slope.rise) (pos slope.run) (given 0).err)
