-- Worked values of maps and their slopes: each computes.
use Rattle.std.proofs.Common.{◌≡◌, ℤ, pos, negsuc, None, Some, List, [], ◌∷◌, refl}
use Rattle.fx_fraction.specs.Fraction.{whole, plus, minus, times, divided, quotient}
use Rattle.fx_core.specs.declared.word_type.Ty.TheVariants.{U8, S8, S16}
use Rattle.fx_core.specs.Rounding.{rounded}
use Rattle.fx_routines.specs.declared.interpolation.MapOp.TheVariants.{Ipo, LkUp, LkUpBase}
use Rattle.ifx_search.specs.Axes.{first_place}
use Rattle.ifx_search.specs.Positions.{position, way_in}
use Rattle.ifx_curves.specs.Curves.{curve, curve_through, on_way}
use Rattle.ifx_curves.specs.Slopes.{counts_of}
use Rattle.ifx_maps.specs.declared.map_table.MapFault.TheVariants.{TooFew, TooMany, WrongCount, OutOfType}
use Rattle.ifx_maps.specs.declared.slopes.Direction.TheVariants.{X, Y}
use Rattle.ifx_maps.specs.Maps.{MapData, map_at, map_fault}
use Rattle.ifx_maps.specs.Slopes.{greatest_of, slope_of, steepest_of, step_of}
use Rattle.ifx_maps.specs.Surfaces.{map_value, surface}

-- an axis of 0 and 10 along x and one of 0 and 20 along y, and a map of 0 and 40 in the first column and 100 and 200 in the second
axis_x : List ℤ
axis_x = pos 0 ∷ pos 10 ∷ []

axis_y : List ℤ
axis_y = pos 0 ∷ pos 20 ∷ []

square : MapData
square = record { ty = S16; nx = 2; ny = 2; values = pos 0 ∷ pos 40 ∷ pos 100 ∷ pos 200 ∷ [] }

-- at 5 and 5, half the way from 10 to 125: 67.5 is rounded downward; the nearer point is at 10 and 0, the lower one at 0 and 0
interpolated : map_value Ipo square (position axis_x (whole (pos 5))) (position axis_y (whole (pos 5))) ≡ pos 67
unfolding axis_x axis_y square map_value surface curve curve_through on_way position way_in plus minus times divided quotient whole rounded
interpolated = refl

nearer_value : map_value LkUp square (position axis_x (whole (pos 5))) (position axis_y (whole (pos 5))) ≡ pos 100
unfolding axis_x axis_y square map_value position way_in plus minus times divided quotient whole rounded
nearer_value = refl

lower_value : map_value LkUpBase square (position axis_x (whole (pos 5))) (position axis_y (whole (pos 5))) ≡ pos 0
unfolding axis_x axis_y square map_value position way_in plus minus times divided quotient whole rounded
lower_value = refl

-- the same at positions
interpolated_at_positions : map_value Ipo square (whole (pos 32768)) (whole (pos 16384)) ≡ pos 67
unfolding square map_value surface curve curve_through on_way plus minus times divided quotient whole rounded
interpolated_at_positions = refl

-- the end values hold outside the axes, and at the last points all three give the last value
outside : map_value Ipo square (position axis_x (whole (negsuc 4))) (position axis_y (whole (pos 99))) ≡ pos 40
unfolding axis_x axis_y square map_value surface curve curve_through on_way position way_in plus minus times divided quotient whole rounded
outside = refl

interpolated_at_the_end : map_value Ipo square (whole (pos 65536)) (whole (pos 65536)) ≡ pos 200
unfolding square map_value surface curve curve_through on_way plus minus times divided quotient whole rounded
interpolated_at_the_end = refl

nearer_at_the_end : map_value LkUp square (whole (pos 65536)) (whole (pos 65536)) ≡ pos 200
unfolding square map_value whole rounded
nearer_at_the_end = refl

lower_at_the_end : map_value LkUpBase square (whole (pos 65536)) (whole (pos 65536)) ≡ pos 200
unfolding square map_value whole rounded
lower_at_the_end = refl

lower_just_below_the_end : map_value LkUpBase square (whole (pos 65535)) (whole (pos 65535)) ≡ pos 0
unfolding square map_value whole rounded
lower_just_below_the_end = refl

-- rounded once: 0.5 and 1.5, rounded in each column first, would give 0
halves : MapData
halves = record { ty = S16; nx = 2; ny = 2; values = pos 0 ∷ pos 1 ∷ pos 1 ∷ pos 2 ∷ [] }

rounded_once : map_value Ipo halves (whole (pos 32768)) (whole (pos 32768)) ≡ pos 1
unfolding halves map_value surface curve curve_through on_way plus minus times divided quotient whole rounded
rounded_once = refl

-- a value below 0 is rounded downward too: of -0.25
minus_a_quarter : map_value Ipo (record { ty = S8; nx = 2; ny = 2; values = negsuc 0 ∷ pos 0 ∷ pos 0 ∷ pos 0 ∷ [] }) (whole (pos 32768)) (whole (pos 32768)) ≡ negsuc 0
unfolding map_value surface curve curve_through on_way plus minus times divided quotient whole rounded
minus_a_quarter = refl

-- three columns of two lines: the value of the last column and first line
third_column : map_at (record { ty = U8; nx = 3; ny = 2; values = pos 1 ∷ pos 2 ∷ pos 3 ∷ pos 4 ∷ pos 5 ∷ pos 6 ∷ [] }) 2 0 ≡ pos 5
third_column = refl

-- from a column to the next 100 and 160, from a line to the next 40 and 100
greatest_along_x : step_of X square ≡ 160
unfolding square greatest_of
greatest_along_x = refl

greatest_along_y : step_of Y square ≡ 100
unfolding square greatest_of
greatest_along_y = refl

steepest_along_x : counts_of (slope_of X axis_x square) ≡ (pos 160, pos 10)
unfolding axis_x square steepest_of
steepest_along_x = refl

steepest_along_y : counts_of (slope_of Y axis_y square) ≡ (pos 100, pos 20)
unfolding axis_y square steepest_of
steepest_along_y = refl

-- of equal slopes, 5 over 10 in the first column and 10 over 20 in the second, it is the first
first_of_equal_slopes : counts_of (slope_of Y (pos 0 ∷ pos 10 ∷ pos 30 ∷ []) (record { ty = U8; nx = 2; ny = 3; values = pos 0 ∷ pos 5 ∷ pos 5 ∷ pos 0 ∷ pos 0 ∷ pos 10 ∷ [] })) ≡ (pos 5, pos 10)
unfolding steepest_of
first_of_equal_slopes = refl

-- why values are refused
three_values : map_fault S16 2 2 (pos 0 ∷ pos 40 ∷ pos 100 ∷ []) ≡ Some WrongCount
three_values = refl

one_line : map_fault S16 2 1 (pos 0 ∷ pos 40 ∷ []) ≡ Some TooFew
one_line = refl

many_values : map_fault S16 257 256 [] ≡ Some TooMany
many_values = refl

most_values : map_fault S16 256 256 [] ≡ Some WrongCount
most_values = refl

outside_the_type : map_fault S8 2 2 (pos 1 ∷ pos 2 ∷ pos 3 ∷ pos 200 ∷ []) ≡ Some (OutOfType 3)
unfolding first_place
outside_the_type = refl

falling_values : map_fault U8 2 2 (pos 255 ∷ pos 0 ∷ pos 7 ∷ pos 7 ∷ []) ≡ None
unfolding first_place
falling_values = refl
