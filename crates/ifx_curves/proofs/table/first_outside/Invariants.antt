use Rattle.std.proofs.Common.{◌≡◌, ◌-◌, length}
use Rattle.ifx_search.specs.Axes.{first_place}
use Rattle.ifx_curves.specs.Tables.{is_outside}
use Rattle.ifx_curves.proofs.table.first_outside.Given as goal

abbrev pub invariant-loop-i : goal.invariant-loop-i
invariant-loop-i l = first_place (is_outside l.ty l.values) l.i (length l.values - l.i) ≡ first_place (is_outside l.ty l.values) 0 (length l.values)
