-- The row at the place is the first, or there is none.
use Rattle.std.proofs.Common.{sym, ◌∙◌, arith}
use Rattle.fx_routines.specs.Names.{is_row_of, row_of}
use Rattle.fx_routines.proofs.TableRows.{find_here, find_none}
use Rattle.fx_routines.proofs.fitting.place_of.Goals as goal

pub returns-then-is_row_of : goal.returns-then-is_row_of
unfolding row_of
returns-then-is_row_of c =
    (omega arith, sym c.loop-place.invariant ∙ find_here (is_row_of c.args.routine c.args.v) c.loop-place.place (omega arith) (sym c.is_row_of.ensures ∙ c.if-is_row_of.true))

pub returns : goal.returns
unfolding row_of
returns c = sym c.loop-place.invariant ∙ find_none (is_row_of c.args.routine c.args.v) c.loop-place.place (omega arith)
