use Rattle.std.proofs.Common.{◌≡◌, drop, length}
use Rattle.csv.specs.Records.{fields_of}
use Rattle.rec_csv.specs.Headers.{columns_of}
use Rattle.rec_csv.proofs.Prepended.{prepended}
use Rattle.rec_csv.proofs.columns.columns_of.Given as goal

abbrev pub invariant-inputs : goal.invariant-inputs
invariant-inputs l = (columns_of (fields_of l.row) l.wires l.inputs ≡ prepended l.columns.items (columns_of (fields_of l.row) l.wires (drop l.i l.inputs)))
    × (length l.columns.items ≡ l.i)
