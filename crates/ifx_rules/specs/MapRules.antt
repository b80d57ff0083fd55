-- The rules of maps and of maps over two axes: the bounds of a value from those of the two that are read, the first along x and the
-- second along y. Ranges are the hull of the rounded values at all corners of both, and errors are in units of 1/65536 of a raw count.
use Rattle.std.specs.Prelude.{ℕ, List, [], ◌∷◌, ℤ, pos, ◌+ℤ◌}
use Rattle.fx_fraction.specs.Fraction.{Fraction, whole}
use Rattle.fx_core.specs.declared.quotient.Mode.TheVariants.{Floor}
use Rattle.fx_core.specs.Values.{rounded_fraction}
use Rattle.part_rules.specs.declared.bounds.Bounds.{Bounds}
use Rattle.part_rules.specs.Ranges.{corner_values, corners_at, hull_of}
use Rattle.part_rules.specs.Units.{one_count}
use Rattle.ifx_search.specs.Positions.{position}
use Rattle.ifx_maps.specs.declared.slopes.Direction.TheVariants.{X, Y}
use Rattle.ifx_maps.specs.Maps.{MapData}
use Rattle.ifx_maps.specs.Slopes.{slope_of, step_of}
use Rattle.ifx_maps.specs.Surfaces.{surface}
use Rattle.ifx_rules.specs.LookUpRules.{slope_move, whole_positions}

-- ---- ranges

-- a function of two fractions at whole numbers, rounded downward
abbrev pub both_rounded_down : (Fraction → Fraction → Fraction) → ℤ → ℤ → ℤ
both_rounded_down value x y = rounded_fraction Floor (value (whole x) (whole y))

-- the hull of the values of a function that bends along x and along y at these points, at the corners of both ranges, with an error
abbrev pub hull_over : (Fraction → Fraction → Fraction) → List ℤ → List ℤ → Bounds → Bounds → ℤ → Bounds
hull_over value points_x points_y x y err =
    hull_of (corner_values (λ m. both_rounded_down value (m 0) (m 1)) (corners_at x points_x ∷ corners_at y points_y ∷ [])) err

-- ---- errors

-- the error of what moves by so much at most along x and along y: both, and one rounding
abbrev pub moves_error : ℤ → ℤ → ℤ
moves_error along_x along_y = along_x +ℤ along_y +ℤ one_count

-- ---- the rules

-- the bounds of a map, from those of its two positions
unfoldable pub map_bounds : MapData → (ℕ → Bounds) → Bounds
map_bounds m given =
    hull_over (surface m) (whole_positions m.nx) (whole_positions m.ny) (given 0) (given 1)
    (moves_error (slope_move (pos (step_of X m)) (pos 65536) (given 0).err) (slope_move (pos (step_of Y m)) (pos 65536) (given 1).err))

-- a map over two axes: at the positions of two numbers, which aren't rounded
abbrev pub map_over : List ℤ → List ℤ → MapData → Fraction → Fraction → Fraction
map_over points_x points_y m x y = surface m (position points_x x) (position points_y y)

-- its bounds, from those of the two numbers
unfoldable pub map_over_bounds : List ℤ → List ℤ → MapData → (ℕ → Bounds) → Bounds
map_over_bounds points_x points_y m given =
    let slope_x = slope_of X points_x m in
    let slope_y = slope_of Y points_y m in
    hull_over (map_over points_x points_y m) points_x points_y (given 0) (given 1)
    (moves_error (slope_move (pos slope_x.rise) (pos slope_x.run) (given 0).err) (slope_move (pos slope_y.rise) (pos slope_y.run) (given 1).err))
