use Rattle.std.proofs.Common.{◌≡◌, ◌-◌, length}
use Rattle.ifx_search.specs.Axes.{first_place, is_not_above}
use Rattle.ifx_search.proofs.axis.listed_not_above.Given as goal

abbrev pub invariant-loop-i : goal.invariant-loop-i
invariant-loop-i l = first_place (is_not_above l.points) l.i (length l.points - l.i) ≡ first_place (is_not_above l.points) 1 (length l.points - 1)
