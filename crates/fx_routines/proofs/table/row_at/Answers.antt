-- The table as the code has it is the rows.
use Rattle.std.proofs.Common.{refl, ap}
use Rattle.fx_routines.specs.Rows.{rows}
use Rattle.fx_routines.proofs.TableRows.{seen_at}
use Rattle.fx_routines.proofs.table.row_at.Goals as goal

pub returns-clause-routine : goal.returns-clause-routine
unfolding rows
returns-clause-routine c = ap (λ r. r.0) (seen_at _ _ _ c.row_in.ensures refl c.requires)

pub returns-clause-front : goal.returns-clause-front
unfolding rows
returns-clause-front c = ap (λ r. r.1.now) (seen_at _ _ _ c.row_in.ensures refl c.requires)

pub returns-clause-shape : goal.returns-clause-shape
unfolding rows
returns-clause-shape c = ap (λ r. r.2) (seen_at _ _ _ c.row_in.ensures refl c.requires)
