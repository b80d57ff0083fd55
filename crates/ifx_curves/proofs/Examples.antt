-- Worked values of tables, curves and slopes: each computes.
use Rattle.std.proofs.Common.{◌≡◌, ℤ, pos, negsuc, None, Some, List, [], ◌∷◌, refl}
use Rattle.fx_fraction.specs.Fraction.{whole, plus, minus, times, divided, quotient}
use Rattle.fx_core.specs.declared.word_type.Ty.TheVariants.{U8, S8, S16}
use Rattle.fx_core.specs.Rounding.{rounded}
use Rattle.fx_routines.specs.declared.interpolation.CurveOp.TheVariants.{Ipo, LkUp}
use Rattle.ifx_search.specs.Axes.{first_place}
use Rattle.ifx_search.specs.Positions.{position, position_value, way_in}
use Rattle.ifx_curves.specs.declared.table.TableFault.TheVariants.{TooFew, OutOfType}
use Rattle.ifx_curves.specs.Tables.{table_fault}
use Rattle.ifx_curves.specs.Curves.{curve, curve_through, curve_value, looked_up, on_way}
use Rattle.ifx_curves.specs.Slopes.{counts_of, greatest_of_steps, slope_of, steepest_of, step_of}

-- an axis of 0, 10 and 30, and a table of 0, 100 and 50 over it
axis : List ℤ
axis = pos 0 ∷ pos 10 ∷ pos 30 ∷ []

table : List ℤ
table = pos 0 ∷ pos 100 ∷ pos 50 ∷ []

-- at 15, a quarter of the way from 100 to 50: 87.5 is rounded downward, and the nearer value is 100
interpolated : curve_value Ipo table (position axis (whole (pos 15))) ≡ pos 87
unfolding axis table curve_value curve curve_through on_way position way_in plus minus times divided quotient whole rounded
interpolated = refl

nearer_value : curve_value LkUp table (position axis (whole (pos 15))) ≡ pos 100
unfolding axis table curve_value looked_up position way_in plus minus times divided quotient whole rounded
nearer_value = refl

-- the position of 15 is whole, so the curve there is the same
interpolated_at_its_position : curve_value Ipo table (whole (position_value axis (pos 15))) ≡ pos 87
unfolding axis table curve_value curve curve_through on_way position way_in plus minus times divided quotient whole rounded
interpolated_at_its_position = refl

-- half way from 100 to 50 the upper value is looked up, and the last value at the last position
half_the_way : curve_value LkUp table (whole (pos 98304)) ≡ pos 50
unfolding table curve_value looked_up plus minus times divided quotient whole rounded
half_the_way = refl

just_below_half : curve_value LkUp table (whole (pos 98303)) ≡ pos 100
unfolding table curve_value looked_up plus minus times divided quotient whole rounded
just_below_half = refl

at_the_end : curve_value LkUp table (whole (pos 131072)) ≡ pos 50
unfolding table curve_value looked_up plus minus times divided quotient whole rounded
at_the_end = refl

-- the end values hold outside the axis
below_the_axis : curve_value Ipo table (position axis (whole (negsuc 4))) ≡ pos 0
unfolding axis table curve_value curve curve_through on_way position way_in plus minus times divided quotient whole rounded
below_the_axis = refl

above_the_axis : curve_value Ipo table (position axis (whole (pos 99))) ≡ pos 50
unfolding axis table curve_value curve curve_through on_way position way_in plus minus times divided quotient whole rounded
above_the_axis = refl

-- a value below 0 is rounded downward too: of -0.5
minus_a_half : curve_value Ipo (negsuc 0 ∷ pos 0 ∷ []) (whole (pos 32768)) ≡ negsuc 0
unfolding curve_value curve curve_through on_way plus minus times divided quotient whole rounded
minus_a_half = refl

-- a third of the way on the axis 0 and 3: at the input itself it is 1, and at its rounded position 0
without_a_rounded_position : curve_value Ipo (pos 0 ∷ pos 3 ∷ []) (position (pos 0 ∷ pos 3 ∷ []) (whole (pos 1))) ≡ pos 1
unfolding curve_value curve curve_through on_way position way_in plus minus times divided quotient whole rounded
without_a_rounded_position = refl

rounded_position : position_value (pos 0 ∷ pos 3 ∷ []) (pos 1) ≡ pos 21845
unfolding position way_in plus minus times divided quotient whole rounded
rounded_position = refl

at_a_rounded_position : curve_value Ipo (pos 0 ∷ pos 3 ∷ []) (whole (pos 21845)) ≡ pos 0
unfolding curve_value curve curve_through on_way plus minus times divided quotient whole rounded
at_a_rounded_position = refl

-- the greatest step is the rise of 100, and the steepest slope 100 over 10
greatest_rise : step_of table ≡ 100
unfolding table greatest_of_steps
greatest_rise = refl

steepest_rise : counts_of (slope_of axis table) ≡ (pos 100, pos 10)
unfolding axis table steepest_of
steepest_rise = refl

-- a fall counts as much as a rise: 120 over 20, which is less steep than 70 over 10
greatest_fall : step_of (pos 0 ∷ pos 70 ∷ negsuc 49 ∷ []) ≡ 120
unfolding greatest_of_steps
greatest_fall = refl

steeper_before_the_fall : counts_of (slope_of axis (pos 0 ∷ pos 70 ∷ negsuc 49 ∷ [])) ≡ (pos 70, pos 10)
unfolding axis steepest_of
steeper_before_the_fall = refl

steepest_fall : counts_of (slope_of axis (pos 0 ∷ pos 50 ∷ negsuc 69 ∷ [])) ≡ (pos 120, pos 20)
unfolding axis steepest_of
steepest_fall = refl

-- of equal slopes, 5 over 10 and 10 over 20, it is the first
first_of_equal_slopes : counts_of (slope_of axis (pos 0 ∷ pos 5 ∷ negsuc 4 ∷ [])) ≡ (pos 5, pos 10)
unfolding axis steepest_of
first_of_equal_slopes = refl

-- why values are refused
one_value : table_fault S16 (pos 5 ∷ []) ≡ Some TooFew
unfolding first_place
one_value = refl

outside_the_type : table_fault S8 (pos 1 ∷ pos 200 ∷ []) ≡ Some (OutOfType 1)
unfolding first_place
outside_the_type = refl

falling_values : table_fault U8 (pos 255 ∷ pos 0 ∷ []) ≡ None
unfolding first_place
falling_values = refl
