-- A map along each of its two directions is part of a broken line with the slopes of its rule.
use Rattle.std.specs.Prelude.{◌≡◌, ℕ, suc, ◌*◌, ◌-◌, ◌<◌, ◌≤◌, List, length, ℤ, pos, ◌-ℤ◌, unsigned_abs}
use Rattle.std.proofs.Common.{sym, ap₂, ◌∙◌, subst, arith, mul-le-mul, le_refl}
use Rattle.std.proofs.lemmas.Int.{ints}
use Rattle.std.proofs.lemmas.List.FromFn.{length-map-range_with_len}
use Rattle.fx_fraction.specs.Fraction.{Fraction}
use Rattle.ifx_search.specs.Positions.{position}
use Rattle.ifx_curves.specs.Curves.{curve}
use Rattle.ifx_curves.specs.Slopes.{step_at, run_at}
use Rattle.ifx_maps.specs.declared.slopes.Direction.{Direction}
use Rattle.ifx_maps.specs.declared.slopes.Direction.TheVariants.{X, Y}
use Rattle.ifx_maps.specs.Maps.{MapData}
use Rattle.ifx_maps.specs.Slopes.{columns_along, lines_along, step_from, column_step, step_of, point_of, slope_from, column_slope, slope_of}
use Rattle.ifx_maps.specs.Surfaces.{surface}
use Rattle.ifx_rules.specs.LookUpRules.{gap_at, whole_positions}
use Rattle.ifx_rules.specs.KeptRules.{AreAxis}
use Rattle.ifx_rules.proofs.Bends.{whole_position}
use Rattle.ifx_rules.proofs.CurvePlaces.{place_of}
use Rattle.ifx_rules.proofs.LineRanges.{IsLine}
use Rattle.ifx_rules.proofs.LookUps.{curve_line_by, curve_over_line_by, gaps_some}
use Rattle.ifx_rules.proofs.Steepest.{IsSteeper, greatest_above, steeper_than, steepest, steepest_some}
use Rattle.ifx_rules.proofs.SurfaceLines.{columns_at, lines_at, columns_gentle, lines_gentle, surface_along_x, surface_along_y, in_column, in_line}
use Rattle.ifx_rules.proofs.TwoWayRules.{IsTwoWay}

-- ---- the ways along a direction

-- a way to give positions: read at these, every curve through n values is a line that bends at these points
pub record IsWay (n G : ℕ) (way : Fraction → Fraction) (points : List ℤ) : Type 0 where
  pub lines : (D : ℕ) (values : List ℤ) → length values ≡ n → ((i : ℕ) → suc i < n → step_at values i * G ≤ D * gap_at points i) → IsLine D G (λ x. curve values (way x)) points

segment : (i : ℕ) → unsigned_abs (pos (65536 * suc i) -ℤ pos (65536 * i)) ≡ 65536
segment i = omega (arith, ints)

pub whole_gap : (n i : ℕ) → suc i < n → gap_at (whole_positions n) i ≡ 65536
whole_gap n i h = ap₂ (λ p q. unsigned_abs (p -ℤ q)) (whole_position n (suc i) h) (whole_position n i (omega (arith, h))) ∙ segment i

less_by : (s D : ℕ) → s * 65536 ≤ D * 65536 → s ≤ D
less_by s D h = omega (arith, h)

-- positions themselves
pub positions_way : (n : ℕ) → 2 ≤ n → IsWay n 65536 (λ t. t) (whole_positions n)
positions_way n some = record {
  lines = λ D values e steps. subst (λ k. IsLine D 65536 (curve values) (whole_positions k)) e
      (curve_line_by D values (omega (arith, some, e)) (λ i l. less_by (step_at values i) D (subst (λ g. step_at values i * 65536 ≤ D * g) (whole_gap n i (omega (arith, e, l))) (steps i (omega (arith, e, l))))));
}

-- the positions of numbers on an axis
pub axis_way : (points : List ℤ) (n G : ℕ) → AreAxis points → length points ≡ n → IsWay n G (position points) points
axis_way points n G a e = record { lines = λ D values h steps. curve_over_line_by D G points values a (e ∙ sym h) (λ i l. steps i (omega (arith, e, l))) }

-- ---- a map over two ways

-- no step from a column to the next is steeper than D / G over the points
abbrev pub AreStepsX : MapData → ℕ → ℕ → List ℤ → Type 0
AreStepsX m D G points = (ix iy : ℕ) → suc ix < m.nx → iy < m.ny → step_from X m ix iy * G ≤ D * gap_at points ix

-- nor one from a line to the next
abbrev pub AreStepsY : MapData → ℕ → ℕ → List ℤ → Type 0
AreStepsY m D G points = (ix iy : ℕ) → ix < m.nx → suc iy < m.ny → step_from Y m ix iy * G ≤ D * gap_at points iy

pub map_two_way : {Dx Gx Dy Gy : ℕ} (m : MapData) (way_x way_y : Fraction → Fraction) (points_x points_y : List ℤ) → 2 ≤ m.nx → 2 ≤ m.ny → IsWay m.nx Gx way_x points_x → IsWay m.ny Gy way_y points_y → AreStepsX m Dx Gx points_x → AreStepsY m Dy Gy points_y →
    IsTwoWay Dx Gx Dy Gy (λ x y. surface m (way_x x) (way_y y)) points_x points_y
map_two_way {Dx} {Gx} {Dy} {Gy} m way_x way_y points_x points_y some_x some_y wx wy steps_x steps_y = record {
  along_x = λ y.
      let q = place_of m.ny (way_y y) some_y in
      record {
        parts = q.span;
        some = q.some;
        all = λ x. curve (columns_at m q) (way_x x);
        line = wx.lines (Dx * q.span) (columns_at m q) (length-map-range_with_len (in_column m q) 0 m.nx) (λ i l. columns_gentle m q i Dx Gx (gap_at points_x i) l (λ iy h. steps_x i iy l h));
        same = λ x. surface_along_x m (way_y y) q (way_x x) some_x;
      };
  along_y = λ x.
      let p = place_of m.nx (way_x x) some_x in
      record {
        parts = p.span;
        some = p.some;
        all = λ y. curve (lines_at m p) (way_y y);
        line = wy.lines (Dy * p.span) (lines_at m p) (length-map-range_with_len (in_line m p) 0 m.ny) (λ i l. lines_gentle m p i Dy Gy (gap_at points_y i) l (λ ix h. steps_y ix i h l));
        same = λ y. surface_along_y m (way_x x) p (way_y y) some_y;
      };
}

-- ---- the steps and slopes of its rule

step_within : (along : Direction) (m : MapData) (ix iy : ℕ) → ix < columns_along along m → iy < lines_along along m → step_from along m ix iy ≤ step_of along m
step_within along m ix iy h k =
    omega (arith, greatest_above (step_from along m ix) (lines_along along m) iy k, greatest_above (column_step along m) (columns_along along m) ix h)

pub steps_of_x : (m : MapData) → AreStepsX m (step_of X m) 65536 (whole_positions m.nx)
steps_of_x m ix iy h k = rw (whole_gap m.nx ix h) (mul-le-mul (step_within X m ix iy (omega (arith, h)) k) (le_refl 65536))

pub steps_of_y : (m : MapData) → AreStepsY m (step_of Y m) 65536 (whole_positions m.ny)
steps_of_y m ix iy h k = rw (whole_gap m.ny iy k) (mul-le-mul (step_within Y m ix iy h (omega (arith, k))) (le_refl 65536))

-- every segment of a direction has a length
abbrev HaveRuns : Direction → List ℤ → MapData → Type 0
HaveRuns along points m = (ix iy : ℕ) → ix < columns_along along m → iy < lines_along along m → 1 ≤ run_at points (point_of along ix iy)

inner : (i n : ℕ) → 1 ≤ n → i ≤ n - 1 → i < n
inner i n some h = omega (arith, some, h)

column_run : (along : Direction) (points : List ℤ) (m : MapData) → 1 ≤ lines_along along m → HaveRuns along points m → (ix : ℕ) → ix < columns_along along m → 1 ≤ (column_slope along points m ix).run
column_run along points m lines runs ix h = steepest_some (slope_from along points m ix) (lines_along along m - 1) (λ iy k. runs ix iy h (inner iy (lines_along along m) lines k))

slope_run : (along : Direction) (points : List ℤ) (m : MapData) → 1 ≤ columns_along along m → 1 ≤ lines_along along m → HaveRuns along points m → 1 ≤ (slope_of along points m).run
slope_run along points m columns lines runs =
    steepest_some (column_slope along points m) (columns_along along m - 1) (λ ix h. column_run along points m lines runs ix (inner ix (columns_along along m) columns h))

slope_within : (along : Direction) (points : List ℤ) (m : MapData) → HaveRuns along points m → (ix iy : ℕ) → ix < columns_along along m → iy < lines_along along m → IsSteeper (slope_of along points m) (slope_from along points m ix iy)
slope_within along points m runs ix iy h k =
    let columns : 1 ≤ columns_along along m = omega (arith, h) in
    let lines : 1 ≤ lines_along along m = omega (arith, k) in
    steeper_than (slope_of along points m) (column_slope along points m ix) (slope_from along points m ix iy) (column_run along points m lines runs ix h)
    (steepest (column_slope along points m) (columns_along along m - 1) ix (λ jx l. column_run along points m lines runs jx (inner jx (columns_along along m) columns l)) (omega (arith, h)))
    (steepest (slope_from along points m ix) (lines_along along m - 1) iy (λ jy l. runs ix jy h (inner jy (lines_along along m) lines l)) (omega (arith, k)))

runs_x : (points : List ℤ) (m : MapData) → AreAxis points → length points ≡ m.nx → HaveRuns X points m
runs_x points m a e ix iy h k = gaps_some points a ix (omega (arith, e, h))

runs_y : (points : List ℤ) (m : MapData) → AreAxis points → length points ≡ m.ny → HaveRuns Y points m
runs_y points m a e ix iy h k = gaps_some points a iy (omega (arith, e, k))

pub slopes_of_x : (points : List ℤ) (m : MapData) → AreAxis points → length points ≡ m.nx → AreStepsX m (slope_of X points m).rise (slope_of X points m).run points
slopes_of_x points m a e ix iy h k = (slope_within X points m (runs_x points m a e) ix iy (omega (arith, h)) k).steep

pub slopes_of_y : (points : List ℤ) (m : MapData) → AreAxis points → length points ≡ m.ny → AreStepsY m (slope_of Y points m).rise (slope_of Y points m).run points
slopes_of_y points m a e ix iy h k = (slope_within Y points m (runs_y points m a e) ix iy h (omega (arith, k))).steep

pub some_run_x : (points : List ℤ) (m : MapData) → AreAxis points → length points ≡ m.nx → 1 ≤ m.ny → 1 ≤ (slope_of X points m).run
some_run_x points m a e some = slope_run X points m (omega (arith, a.some, e)) some (runs_x points m a e)

pub some_run_y : (points : List ℤ) (m : MapData) → AreAxis points → length points ≡ m.ny → 1 ≤ m.nx → 1 ≤ (slope_of Y points m).run
some_run_y points m a e some = slope_run Y points m some (omega (arith, a.some, e)) (runs_y points m a e)
