use Rattle.csv.specs.Records.{fields_of}
use Rattle.rec_csv.proofs.RowFacts.{Kept}
use Rattle.rec_csv.proofs.rows.fill.Given as goal

abbrev pub invariant-columns : goal.invariant-columns
invariant-columns l = Kept l.columns (fields_of l.row) l.values l.i
