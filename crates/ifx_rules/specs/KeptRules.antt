-- The rules of look-ups as records over the numbers of what they read, what their parts mean, and that they are kept.
use Rattle.std.specs.Prelude.{◌≡◌, ℕ, suc, ◌<◌, ◌≤◌, false, List, [], ◌∷◌, length, ℤ, ◌<ℤ◌}
use Rattle.fx_fraction.specs.Fraction.{Fraction}
use Rattle.part_rules.specs.declared.bounds.Bounds.{Bounds}
use Rattle.part_rules.specs.PartRules.{PartRule, PartMeaning, KeepsRule, bounds_at, read_now}
use Rattle.ifx_search.specs.Axes.{point_at}
use Rattle.ifx_search.specs.Positions.{position}
use Rattle.ifx_curves.specs.Curves.{curve}
use Rattle.ifx_maps.specs.Maps.{MapData}
use Rattle.ifx_maps.specs.Surfaces.{surface}
use Rattle.ifx_rules.specs.LookUpRules.{rounded_down, position_bounds, curve_bounds, curve_over, curve_over_bounds}
use Rattle.ifx_rules.specs.MapRules.{both_rounded_down, map_bounds, map_over, map_over_bounds}

-- a rule that reads one number of this row and always gives something
abbrev pub one_read : ((ℕ → Bounds) → Bounds) → PartRule ℕ
one_read bounds = record { reads = read_now 0 ∷ []; fails = λ given. false; bounds = λ given. bounds (bounds_at given) }

-- a function of one number, rounded downward in the machine
abbrev pub rounds_down : (Fraction → Fraction) → PartMeaning
rounds_down value = record { value = λ m. rounded_down value (m 0); exactly = λ e. value (e 0); Divides = λ e. Unit {0} }

-- a rule that reads two numbers of this row and always gives something
abbrev pub two_read : ((ℕ → Bounds) → Bounds) → PartRule ℕ
two_read bounds = record { reads = read_now 0 ∷ read_now 1 ∷ []; fails = λ given. false; bounds = λ given. bounds (bounds_at given) }

-- a function of two numbers, rounded downward in the machine
abbrev pub both_round_down : (Fraction → Fraction → Fraction) → PartMeaning
both_round_down value = record { value = λ m. both_rounded_down value (m 0) (m 1); exactly = λ e. value (e 0) (e 1); Divides = λ e. Unit {0} }

-- all bounds fit
abbrev pub FitAll : List Bounds → Type 0
FitAll given = Unit {0}

-- ---- the rules

abbrev pub position_rule : List ℤ → PartRule ℕ
position_rule points = one_read (position_bounds points)

abbrev pub curve_rule : List ℤ → PartRule ℕ
curve_rule values = one_read (curve_bounds values)

abbrev pub curve_over_rule : List ℤ → List ℤ → PartRule ℕ
curve_over_rule points values = one_read (curve_over_bounds points values)

abbrev pub map_rule : MapData → PartRule ℕ
map_rule m = two_read (map_bounds m)

abbrev pub map_over_rule : List ℤ → List ℤ → MapData → PartRule ℕ
map_over_rule points_x points_y m = two_read (map_over_bounds points_x points_y m)

-- ---- that they are kept

-- at least two points, which rise
pub record AreAxis (points : List ℤ) : Type 0 where
  pub some : 2 ≤ length points
  pub rising : (i : ℕ) → suc i < length points → point_at points i <ℤ point_at points (suc i)

abbrev pub PositionsKeepRules : Type 0
PositionsKeepRules = (points : List ℤ) → AreAxis points → KeepsRule (position_rule points) (rounds_down (position points)) FitAll

abbrev pub CurvesKeepRules : Type 0
CurvesKeepRules = (values : List ℤ) → 2 ≤ length values → KeepsRule (curve_rule values) (rounds_down (curve values)) FitAll

abbrev pub CurvesOverKeepRules : Type 0
CurvesOverKeepRules =
    (points values : List ℤ) → AreAxis points → length points ≡ length values →
    KeepsRule (curve_over_rule points values) (rounds_down (curve_over points values)) FitAll

abbrev pub MapsKeepRules : Type 0
MapsKeepRules = (m : MapData) → 2 ≤ m.nx → 2 ≤ m.ny → KeepsRule (map_rule m) (both_round_down (surface m)) FitAll

abbrev pub MapsOverKeepRules : Type 0
MapsOverKeepRules =
    (points_x points_y : List ℤ) (m : MapData) → AreAxis points_x → AreAxis points_y → length points_x ≡ m.nx → length points_y ≡ m.ny →
    KeepsRule (map_over_rule points_x points_y m) (both_round_down (map_over points_x points_y m)) FitAll
