use Rattle.std.proofs.Common.{◌≡◌, ◌-◌, length}
use Rattle.ifx_search.specs.Axes.{first_place, is_outside}
use Rattle.ifx_search.proofs.axis.listed_outside.Given as goal

abbrev pub invariant-loop-i : goal.invariant-loop-i
invariant-loop-i l = first_place (is_outside l.ty l.points) l.i (length l.points - l.i) ≡ first_place (is_outside l.ty l.points) 0 (length l.points)
