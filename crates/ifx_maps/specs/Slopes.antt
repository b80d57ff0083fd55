-- How steep a map is in each direction. The segments of a direction go by the places of their lower ends: column by column, and in
-- a column line by line.
use Rattle.std.specs.Prelude.{ℕ, zero, suc, ◌-◌, ℤ, ◌-ℤ◌, max, List, unsigned_abs}
use Rattle.ifx_curves.specs.declared.slopes.Slope.{Slope}
use Rattle.ifx_curves.specs.Slopes.{run_at, steeper}
use Rattle.ifx_maps.specs.declared.slopes.Direction.{Direction}
use Rattle.ifx_maps.specs.declared.slopes.Direction.TheVariants.{X, Y}
use Rattle.ifx_maps.specs.Maps.{MapData, map_at}

-- the greatest of the first n of these steps
unfoldable pub greatest_of : (ℕ → ℕ) → ℕ → ℕ
greatest_of step zero = 0
greatest_of step (suc n) = max (greatest_of step n) (step n)

-- the steepest of the first n + 1 of these slopes, and of equal ones the first
unfoldable pub steepest_of : (ℕ → Slope) → ℕ → Slope
steepest_of slope zero = slope 0
steepest_of slope (suc n) = steeper (steepest_of slope n) (slope (suc n))

-- ---- one segment

-- how many points the axis of a direction has
abbrev pub points_along : Direction → MapData → ℕ
points_along X m = m.nx
points_along Y m = m.ny

-- in how many columns segments begin, and in how many lines
abbrev pub columns_along : Direction → MapData → ℕ
columns_along X m = m.nx - 1
columns_along Y m = m.nx

abbrev pub lines_along : Direction → MapData → ℕ
lines_along X m = m.ny
lines_along Y m = m.ny - 1

-- the value at the upper end of the segment that begins in column ix and line iy
abbrev pub next_value : Direction → MapData → ℕ → ℕ → ℤ
next_value X m ix iy = map_at m (suc ix) iy
next_value Y m ix iy = map_at m ix (suc iy)

-- how far it is from the one at the lower end
abbrev pub step_from : Direction → MapData → ℕ → ℕ → ℕ
step_from along m ix iy = unsigned_abs (next_value along m ix iy -ℤ map_at m ix iy)

-- the number of the lower end's point on the axis of the direction
abbrev pub point_of : Direction → ℕ → ℕ → ℕ
point_of X ix iy = ix
point_of Y ix iy = iy

-- the slope of a segment of the map, without its sign
abbrev pub slope_from : Direction → List ℤ → MapData → ℕ → ℕ → Slope
slope_from along points m ix iy = record { rise = step_from along m ix iy; run = run_at points (point_of along ix iy) }

-- ---- all segments of a direction

-- the greatest step from a value of column ix to the next one, and from any value
abbrev pub column_step : Direction → MapData → ℕ → ℕ
column_step along m ix = greatest_of (step_from along m ix) (lines_along along m)

abbrev pub step_of : Direction → MapData → ℕ
step_of along m = greatest_of (column_step along m) (columns_along along m)

-- the steepest slope that begins in column ix, and of all; of equal ones the first
abbrev pub column_slope : Direction → List ℤ → MapData → ℕ → Slope
column_slope along points m ix = steepest_of (slope_from along points m ix) (lines_along along m - 1)

abbrev pub slope_of : Direction → List ℤ → MapData → Slope
slope_of along points m = steepest_of (column_slope along points m) (columns_along along m - 1)
