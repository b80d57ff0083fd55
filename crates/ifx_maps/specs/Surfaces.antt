-- The surface through the values of a map, on fractions, and what the machine gives of it. Column number ix stands at the position
-- 65536 * ix along x and line number iy at 65536 * iy along y, so a map over two axes is read at the positions of the inputs there.
use Rattle.std.specs.Prelude.{ℕ, suc, ◌/◌, ℤ, nat_lt, if◌then◌else◌, List, map, unsigned_abs}
use Rattle.std.specs.List.{range_with_len}
use Rattle.fx_fraction.specs.Fraction.{Fraction}
use Rattle.fx_core.specs.declared.quotient.Mode.TheVariants.{Floor}
use Rattle.fx_core.specs.Values.{rounded_fraction}
use Rattle.fx_routines.specs.declared.interpolation.MapOp.{MapOp}
use Rattle.fx_routines.specs.declared.interpolation.MapOp.TheVariants.{Ipo, LkUp, LkUpBase}
use Rattle.ifx_curves.specs.declared.stretch.Stretch.{Stretch}
use Rattle.ifx_curves.specs.Curves.{curve, curve_through, nearer_point}
use Rattle.ifx_curves.specs.Stretches.{weighted_sum}
use Rattle.ifx_maps.specs.Maps.{MapData, map_at}

-- the values of column ix, from the first line on
abbrev pub column_of : MapData → ℕ → List ℤ
column_of m ix = map (λ iy. map_at m ix iy) (range_with_len 0 m.ny)

-- the map at the positions tx and ty: the curve along y in each column, and then the curve along x through what these give
unfoldable pub surface : MapData → Fraction → Fraction → Fraction
surface m tx ty = curve_through (map (λ ix. curve (column_of m ix) ty) (range_with_len 0 m.nx)) tx

-- the point at or below a whole position
abbrev pub lower_point : ℕ → ℕ
lower_point t = t / 65536

-- a position that isn't negative, rounded downward
abbrev pub whole_position : Fraction → ℕ
whole_position t = unsigned_abs (rounded_fraction Floor t)

-- what a routine gives at the positions tx and ty, which aren't negative: the map there, rounded downward once, or the value looked up
-- at the nearer or at the lower point in each direction, with tx and ty rounded downward
unfoldable pub map_value : MapOp → MapData → Fraction → Fraction → ℤ
map_value Ipo m tx ty = rounded_fraction Floor (surface m tx ty)
map_value LkUp m tx ty = map_at m (nearer_point (whole_position tx)) (nearer_point (whole_position ty))
map_value LkUpBase m tx ty = map_at m (lower_point (whole_position tx)) (lower_point (whole_position ty))

-- ---- what the machine computes on the way

-- the sum of a column's two values round the end of a stretch along y, with their weights
abbrev pub column_sum : MapData → ℕ → Stretch → ℤ
column_sum m ix y = weighted_sum y (map_at m ix y.segment) (map_at m ix (suc y.segment))

-- the last point at or below the end of a stretch
abbrev pub lower_end : Stretch → ℕ
lower_end s = if nat_lt s.way s.span then s.segment else suc s.segment
