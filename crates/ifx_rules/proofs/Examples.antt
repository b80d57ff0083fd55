-- The rules on worked values: an axis of 0, 10 and 30 and a table of 0, 100 and 50.
use Rattle.std.specs.Prelude.{◌≡◌, List, [], ◌∷◌, ℤ, pos}
use Rattle.std.proofs.Common.{refl}
use Rattle.part_rules.specs.declared.bounds.Bounds.{Bounds}
use Rattle.fx_fraction.specs.Fraction.{whole, plus, minus, times, quotient, divided}
use Rattle.fx_core.specs.Rounding.{least_quotient_above, rounded}
use Rattle.ifx_search.specs.Positions.{position, way_in}
use Rattle.ifx_curves.specs.Curves.{curve, curve_through, on_way}
use Rattle.ifx_curves.specs.Slopes.{greatest_of_steps, steepest_of}
use Rattle.ifx_rules.specs.LookUpRules.{least_of_gaps, position_bounds, curve_bounds, curve_over_bounds}

axis : List ℤ
axis = pos 0 ∷ pos 10 ∷ pos 30 ∷ []

table : List ℤ
table = pos 0 ∷ pos 100 ∷ pos 50 ∷ []

-- bounds from lo to hi with an error
bounds : ℤ → ℤ → ℤ → Bounds
bounds lo hi err = record { lo = lo; hi = hi; err = err }

-- a number from 0 to 30 without an error stands at a position within one raw count of the exact one
position-whole_axis : position_bounds axis (λ p. bounds (pos 0) (pos 30) (pos 0)) ≡ bounds (pos 0) (pos 131072) (pos 65536)
unfolding axis bounds position_bounds least_of_gaps position way_in whole plus minus times quotient divided least_quotient_above rounded
position-whole_axis = refl

-- the curve at such a position: the position's error by the greatest step, and one rounding
curve-whole_axis : curve_bounds table (λ p. bounds (pos 0) (pos 131072) (pos 65536)) ≡ bounds (pos 0) (pos 100) (pos 65636)
unfolding table bounds curve_bounds greatest_of_steps curve curve_through on_way whole plus minus times quotient divided least_quotient_above rounded
curve-whole_axis = refl

-- over the axis the position isn't rounded, so there is one rounding alone
curve_over-whole_axis : curve_over_bounds axis table (λ p. bounds (pos 0) (pos 30) (pos 0)) ≡ bounds (pos 0) (pos 100) (pos 65536)
unfolding axis table bounds curve_over_bounds steepest_of position way_in curve curve_through on_way whole plus minus times quotient divided least_quotient_above rounded
curve_over-whole_axis = refl

-- between 5 and 20 the curve's greatest value is at the point inside, and not at an end
curve_over-inner_point : curve_over_bounds axis table (λ p. bounds (pos 5) (pos 20) (pos 3)) ≡ bounds (pos 50) (pos 100) (pos 65566)
unfolding axis table bounds curve_over_bounds steepest_of position way_in curve curve_through on_way whole plus minus times quotient divided least_quotient_above rounded
curve_over-inner_point = refl

-- the error over the least gap, 10, rounded up
position-with_error : position_bounds axis (λ p. bounds (pos 0) (pos 10) (pos 1)) ≡ bounds (pos 0) (pos 65536) (pos 72090)
unfolding axis bounds position_bounds least_of_gaps position way_in whole plus minus times quotient divided least_quotient_above rounded
position-with_error = refl
