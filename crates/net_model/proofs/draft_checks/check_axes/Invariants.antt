use Rattle.std.proofs.Common.{◌≡◌, [], take, drop}
use Rattle.net_model.specs.Validity.{AreAxes, axis_names}
use Rattle.net_model.specs.Faults.{names_tested}
use Rattle.net_model.proofs.draft_checks.check_axes.Given as goal

-- the names from here on decide, and each axis above is what it may be
abbrev pub invariant-loop-i : goal.invariant-loop-i
invariant-loop-i l =
    (names_tested (axis_names (take l.i l.axes)) (axis_names (drop l.i l.axes)) ≡ names_tested [] (axis_names l.axes)) × AreAxes (take l.i l.axes)
