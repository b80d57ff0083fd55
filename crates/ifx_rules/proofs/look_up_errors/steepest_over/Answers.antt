use Rattle.std.proofs.Common.{◌≡◌, of_z, pos, rules, to_z}
use Rattle.std.specs.Int.{w64}
use Rattle.fx_fraction.proofs.WholeNumbers.{int_le-pos}
use Rattle.ifx_curves.specs.Slopes.{slope_of}
use Rattle.ifx_rules.proofs.Bends.{are_axis}
use Rattle.ifx_rules.proofs.LookUps.{some_run}
use Rattle.ifx_rules.proofs.look_up_errors.steepest_over.Goals as goal

pub returns-clause-some : goal.returns-clause-some
returns-clause-some c =
    let points = c.args.axis.now.points in
    let values = c.args.table.now.values in
    let run : to_z w64 (of_z w64 c.greatest_slope-rise.result.1) ≡ pos (slope_of points values).run = search rules in
    rw run (int_le-pos 1 _ (some_run points values (are_axis c.args.axis.now.ty points c.len-points.ensures.axis) c.requires))
