use Rattle.std.proofs.Common.{◌≡◌, drop}
use Rattle.csv.specs.Records.{fields_of}
use Rattle.rec_csv.specs.Headers.{places_from}
use Rattle.rec_csv.proofs.columns.next_place.Given as goal

abbrev pub invariant-fields : goal.invariant-fields
invariant-fields l = places_from l.from l.name (drop l.from (fields_of l.row)) ≡ places_from l.i l.name (drop l.i (fields_of l.row))
