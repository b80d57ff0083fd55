-- Worked values of axes and positions: each computes.
use Rattle.std.proofs.Common.{◌≡◌, pos, negsuc, None, Some, [], ◌∷◌, refl}
use Rattle.fx_fraction.specs.Fraction.{whole, plus, minus, times, divided, quotient}
use Rattle.fx_core.specs.declared.word_type.Ty.TheVariants.{U8, S16}
use Rattle.fx_core.specs.Rounding.{rounded}
use Rattle.ifx_search.specs.declared.axis.AxisFault.TheVariants.{TooFew, OutOfType, NotRising}
use Rattle.ifx_search.specs.Axes.{axis_fault, first_place, stepped_points}
use Rattle.ifx_search.specs.Positions.{position, position_value, way_in}

-- the points 0, 10 and 30: below the first, on the second, in a segment, on the last and above it
below_the_first : position_value (pos 0 ∷ pos 10 ∷ pos 30 ∷ []) (negsuc 4) ≡ pos 0
unfolding position way_in plus minus times divided quotient whole rounded
below_the_first = refl

on_the_second : position_value (pos 0 ∷ pos 10 ∷ pos 30 ∷ []) (pos 10) ≡ pos 65536
unfolding position way_in plus minus times divided quotient whole rounded
on_the_second = refl

in_the_second_segment : position_value (pos 0 ∷ pos 10 ∷ pos 30 ∷ []) (pos 15) ≡ pos 81920
unfolding position way_in plus minus times divided quotient whole rounded
in_the_second_segment = refl

on_the_last : position_value (pos 0 ∷ pos 10 ∷ pos 30 ∷ []) (pos 30) ≡ pos 131072
unfolding position way_in plus minus times divided quotient whole rounded
on_the_last = refl

above_the_last : position_value (pos 0 ∷ pos 10 ∷ pos 30 ∷ []) (pos 99) ≡ pos 131072
unfolding position way_in plus minus times divided quotient whole rounded
above_the_last = refl

-- a third of a segment rounds downward
a_third : position_value (pos 0 ∷ pos 3 ∷ []) (pos 1) ≡ pos 21845
unfolding position way_in plus minus times divided quotient whole rounded
a_third = refl

-- why points are refused
one_point : axis_fault S16 (pos 5 ∷ []) ≡ Some TooFew
unfolding first_place
one_point = refl

equal_points : axis_fault S16 (pos 1 ∷ pos 1 ∷ []) ≡ Some (NotRising 1)
unfolding first_place
equal_points = refl

outside_the_type : axis_fault U8 (pos 0 ∷ pos 256 ∷ []) ≡ Some (OutOfType 1)
unfolding first_place
outside_the_type = refl

rising_points : axis_fault S16 (pos 0 ∷ pos 10 ∷ pos 30 ∷ []) ≡ None
unfolding first_place
rising_points = refl

-- equal steps up to the greatest number of a type, and one beyond it
steps_to_the_end : stepped_points (pos 250) (pos 5) 2 ≡ pos 250 ∷ pos 255 ∷ []
unfolding stepped_points
steps_to_the_end = refl

steps_beyond_the_end : axis_fault U8 (stepped_points (pos 250) (pos 5) 3) ≡ Some (OutOfType 2)
unfolding first_place stepped_points
steps_beyond_the_end = refl
