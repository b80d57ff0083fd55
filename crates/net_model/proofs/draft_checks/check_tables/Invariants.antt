use Rattle.std.proofs.Common.{◌≡◌, ◌++◌, take, drop}
use Rattle.net_model.specs.Validity.{AreTables, axis_names, table_names}
use Rattle.net_model.specs.Faults.{names_tested}
use Rattle.net_model.proofs.draft_checks.check_tables.Given as goal

-- the names from here on decide, and each table above is what it may be
abbrev pub invariant-loop-i : goal.invariant-loop-i
invariant-loop-i l =
    (names_tested (axis_names l.axes ++ table_names (take l.i l.tables)) (table_names (drop l.i l.tables)) ≡ names_tested (axis_names l.axes) (table_names l.tables)) × AreTables (take l.i l.tables)
