use Rattle.std.proofs.Common.{◌≡◌, of_z, pos, rules, to_z, arith}
use Rattle.std.specs.Int.{w64}
use Rattle.fx_fraction.proofs.WholeNumbers.{int_le-pos}
use Rattle.ifx_maps.specs.declared.slopes.Direction.TheVariants.{X}
use Rattle.ifx_maps.specs.Slopes.{slope_of}
use Rattle.ifx_rules.proofs.Bends.{are_axis}
use Rattle.ifx_rules.proofs.MapLines.{some_run_x}
use Rattle.ifx_rules.proofs.map_errors.steepest_x.Goals as goal

pub returns-clause-some : goal.returns-clause-some
returns-clause-some c =
    let points = c.args.ax.now.points in
    let run : to_z w64 (of_z w64 c.slope_x-rise.result.1) ≡ pos (slope_of X points c.args.m.now).run = search rules in
    rw run (int_le-pos 1 _ (some_run_x points c.args.m.now (are_axis c.args.ax.now.ty points c.len-points.ensures.axis) c.requires (omega (arith, c.ny-lines.ensures.map.some_lines))))
