-- The rules of look-ups are kept: each is a broken line, and a map part of one along each of its directions.
use Rattle.std.specs.Prelude.{◌≤◌, length}
use Rattle.std.proofs.Common.{arith}
use Rattle.ifx_search.specs.Positions.{position}
use Rattle.ifx_curves.specs.Curves.{curve}
use Rattle.ifx_rules.specs.LookUpRules.{position_bounds, curve_bounds, curve_over, curve_over_bounds, whole_positions}
use Rattle.ifx_rules.specs.KeptRules.{PositionsKeepRules, CurvesKeepRules, CurvesOverKeepRules, MapsKeepRules, MapsOverKeepRules}
use Rattle.ifx_maps.specs.Surfaces.{surface}
use Rattle.ifx_rules.specs.MapRules.{map_bounds, map_over, map_over_bounds}
use Rattle.ifx_rules.proofs.MapLines.{positions_way, axis_way, map_two_way, steps_of_x, steps_of_y, slopes_of_x, slopes_of_y, some_run_x, some_run_y}
use Rattle.ifx_rules.proofs.TwoWayRules.{two_way_keeps_rule}
use Rattle.ifx_rules.proofs.LineRules.{line_keeps_rule}
use Rattle.ifx_rules.proofs.LookUps.{position_is_line, some_gap_of, curve_is_line, curve_over_is_line, some_run}

pub positions_keep_rules : PositionsKeepRules
unfolding position_bounds
positions_keep_rules points a = line_keeps_rule (position points) points (some_gap_of points a) (position_is_line points a)

pub curves_keep_rules : CurvesKeepRules
unfolding curve_bounds
curves_keep_rules values some = line_keeps_rule (curve values) (whole_positions (length values)) (omega arith) (curve_is_line values some)

pub curves_over_keep_rules : CurvesOverKeepRules
unfolding curve_over_bounds
curves_over_keep_rules points values a e = line_keeps_rule (curve_over points values) points (some_run points values a e) (curve_over_is_line points values a e)

pub maps_keep_rules : MapsKeepRules
unfolding map_bounds
maps_keep_rules m some_x some_y =
    two_way_keeps_rule (surface m) (whole_positions m.nx) (whole_positions m.ny) (omega arith) (omega arith)
    (map_two_way m (λ t. t) (λ t. t) (whole_positions m.nx) (whole_positions m.ny) some_x some_y (positions_way m.nx some_x) (positions_way m.ny some_y) (steps_of_x m) (steps_of_y m))

pub maps_over_keep_rules : MapsOverKeepRules
unfolding map_over_bounds
maps_over_keep_rules points_x points_y m ax ay ex ey =
    let some_x : 2 ≤ m.nx = omega (arith, ax.some, ex) in
    let some_y : 2 ≤ m.ny = omega (arith, ay.some, ey) in
    two_way_keeps_rule (map_over points_x points_y m) points_x points_y (some_run_x points_x m ax ex (omega (arith, some_y))) (some_run_y points_y m ay ey (omega (arith, some_x)))
    (map_two_way m (position points_x) (position points_y) points_x points_y some_x some_y (axis_way points_x m.nx _ ax ex) (axis_way points_y m.ny _ ay ey) (slopes_of_x points_x m ax ex) (slopes_of_y points_y m ay ey))
