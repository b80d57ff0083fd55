-- What printing and reading have in common.
use Rattle.std.specs.Prelude.{◌≡◌, ◌↔◌, IsTrue, Some}
use Rattle.fx_routines.specs.declared.operation.Types.{Types}
use Rattle.fx_routines.specs.declared.table.Routine.{Routine}
use Rattle.fx_routines.specs.Rows.{Row, routine_of, parts_of}
use Rattle.fx_routines.specs.Names.{fits, takes, row_name, routine_name}
use Rattle.fx_routines.specs.Reading.{named}

-- each name of the row is read again as its routine with these types
abbrev pub IsReadAgain : Row → Type 0
IsReadAgain row = (v : Types) → IsTrue (fits (parts_of row) v) → named (row_name row v) ≡ Some (routine_of row, v)

-- a routine takes exactly what its printed name is read as
abbrev pub TakesWhatItsNameReads : Routine → Type 0
TakesWhatItsNameReads routine =
    (v : Types) → IsTrue (takes routine v) ↔ (named (routine_name routine v) ≡ Some (routine, v))
