-- The rules of maps on worked values: axes of 0 and 10 and of 0 and 20, and a map of 0, 40, 100 and 200.
use Rattle.std.specs.Prelude.{◌≡◌, List, [], ◌∷◌, ℤ, pos}
use Rattle.std.proofs.Common.{refl}
use Rattle.part_rules.specs.declared.bounds.Bounds.{Bounds}
use Rattle.fx_fraction.specs.Fraction.{whole, plus, minus, times, quotient, divided}
use Rattle.fx_core.specs.Arguments.{two}
use Rattle.fx_core.specs.declared.word_type.Ty.TheVariants.{S16}
use Rattle.fx_core.specs.Rounding.{least_quotient_above, rounded}
use Rattle.ifx_search.specs.Positions.{position, way_in}
use Rattle.ifx_curves.specs.Curves.{curve, curve_through, on_way}
use Rattle.ifx_maps.specs.Maps.{MapData}
use Rattle.ifx_maps.specs.Slopes.{greatest_of, steepest_of}
use Rattle.ifx_maps.specs.Surfaces.{surface}
use Rattle.ifx_rules.specs.MapRules.{map_bounds, map_over_bounds}

axis_x : List ℤ
axis_x = pos 0 ∷ pos 10 ∷ []

axis_y : List ℤ
axis_y = pos 0 ∷ pos 20 ∷ []

square : MapData
square = record { ty = S16; nx = 2; ny = 2; values = pos 0 ∷ pos 40 ∷ pos 100 ∷ pos 200 ∷ [] }

-- a ridge along the middle of three columns and three lines
ridge : MapData
ridge = record { ty = S16; nx = 3; ny = 3; values = pos 0 ∷ pos 10 ∷ pos 0 ∷ pos 20 ∷ pos 90 ∷ pos 20 ∷ pos 0 ∷ pos 10 ∷ pos 0 ∷ [] }

-- bounds from lo to hi with an error
bounds : ℤ → ℤ → ℤ → Bounds
bounds lo hi err = record { lo = lo; hi = hi; err = err }

-- each position is a count off: 160 along x, 100 along y, and one rounding
map-whole_axes : map_bounds square (two (bounds (pos 0) (pos 65536) (pos 65536)) (bounds (pos 0) (pos 65536) (pos 65536))) ≡ bounds (pos 0) (pos 200) (pos 65796)
unfolding square bounds map_bounds greatest_of surface curve curve_through on_way whole plus minus times quotient divided least_quotient_above rounded
map-whole_axes = refl

-- over the axes no position is rounded, so there is one rounding alone
map_over-whole_axes : map_over_bounds axis_x axis_y square (two (bounds (pos 0) (pos 10) (pos 0)) (bounds (pos 0) (pos 20) (pos 0))) ≡ bounds (pos 0) (pos 200) (pos 65536)
unfolding axis_x axis_y square bounds map_over_bounds steepest_of surface position way_in curve curve_through on_way whole plus minus times quotient divided least_quotient_above rounded
map_over-whole_axes = refl

-- 160 over 10 along x and 100 over 20 along y: 7 units along x move it by 112, and 3 along y by 15
map_over-with_errors : map_over_bounds axis_x axis_y square (two (bounds (pos 0) (pos 5) (pos 7)) (bounds (pos 10) (pos 20) (pos 3))) ≡ bounds (pos 20) (pos 120) (pos 65663)
unfolding axis_x axis_y square bounds map_over_bounds steepest_of surface position way_in curve curve_through on_way whole plus minus times quotient divided least_quotient_above rounded
map_over-with_errors = refl

-- the greatest value stands inside both ranges, and at no end of either
map-inner_corner : map_bounds ridge (two (bounds (pos 32768) (pos 98304) (pos 0)) (bounds (pos 32768) (pos 98304) (pos 0))) ≡ bounds (pos 30) (pos 90) (pos 65536)
unfolding ridge bounds map_bounds greatest_of surface curve curve_through on_way whole plus minus times quotient divided least_quotient_above rounded
map-inner_corner = refl
