-- The first row from here on is the first of all.
use Rattle.std.proofs.Common.{◌≡◌, drop, find}
use Rattle.fx_routines.specs.Names.{is_row_of}
use Rattle.fx_routines.specs.Rows.{rows}
use Rattle.fx_routines.proofs.fitting.place_of.Given as goal

abbrev pub invariant-loop-place : goal.invariant-loop-place
invariant-loop-place l = find (is_row_of l.routine l.v) (drop l.place rows) ≡ find (is_row_of l.routine l.v) rows
