use Rattle.std.proofs.Common.{rules, ◌≡◌, ◌<◌, length, Ok, to_z-of_z}
use Rattle.csv.specs.Records.{fields_of}
use Rattle.rec_csv.specs.Fields.{field_in}
use Rattle.rec_csv.specs.Rows.{input_value}
use Rattle.rec_csv.specs.Slots.{column_at}
use Rattle.rec_csv.proofs.HeldValues.{value_fits}
use Rattle.rec_csv.proofs.RowFacts.{kept}
use Rattle.rec_csv.proofs.rows.fill.Goals as goal

pub columns-preserved : goal.columns-preserved
columns-preserved c =
    let columns = c.args.columns.now in
    let fields = fields_of c.args.row.now in
    let i = c.columns.i in
    let z = c.in-Ok.value in
    let is : input_value (column_at columns i) (field_in fields (column_at columns i).place) ≡ Ok z = search rules in
    let fits = value_fits (column_at columns i) (field_in fields (column_at columns i).place) z is in
    let lt : i < length columns = search rules in
    rw (to_z-of_z fits) (kept columns fields c.columns.values i z lt is c.columns.invariant)
