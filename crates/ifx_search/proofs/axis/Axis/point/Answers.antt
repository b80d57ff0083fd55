use Rattle.std.proofs.Common.{◌≡◌, ◌∙◌, ◌<◌, ap, arith, length, rules, sym, w64}
use Rattle.std.proofs.lemmas.Int.{to_z-of_z}
use Rattle.ifx_search.specs.Axes.{grid_points, point_at}
use Rattle.ifx_search.proofs.Points.{length-stepped_points, point_at-stepped}
use Rattle.ifx_search.proofs.axis.Axis.point.Goals as goal

pub returns-in-Stepped : goal.returns-in-Stepped
returns-in-Stepped c =
    let grid = c.in-Stepped.grid in
    let same : grid_points grid ≡ c.args.self.now.points = search rules in
    let inside : c.args.i < grid.count = omega (arith, c.requires, ap length same, length-stepped_points grid.offset grid.step grid.count) in
    to_z-of_z w64 c.point.result (record { sfits = c.point.type_inv })
    ∙ c.point.ensures
    ∙ sym (point_at-stepped grid.offset grid.step grid.count c.args.i inside)
    ∙ ap (λ points. point_at points c.args.i) same
