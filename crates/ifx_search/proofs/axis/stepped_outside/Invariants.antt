use Rattle.std.proofs.Common.{◌≡◌, ◌-◌}
use Rattle.ifx_search.specs.Axes.{first_place, grid_points, is_outside}
use Rattle.ifx_search.proofs.axis.stepped_outside.Given as goal

abbrev pub invariant-loop-i : goal.invariant-loop-i
invariant-loop-i l = first_place (is_outside l.ty (grid_points l.grid)) l.i (l.grid.count - l.i) ≡ first_place (is_outside l.ty (grid_points l.grid)) 0 l.grid.count
