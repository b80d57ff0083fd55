use Rattle.std.proofs.Common.{◌+◌, ◌∙◌, ap, sym, drop}
use Rattle.csv.specs.Records.{fields_of}
use Rattle.rec_csv.specs.Headers.{columns_of}
use Rattle.rec_csv.proofs.Prepended.{prepended}
use Rattle.rec_csv.proofs.ColumnFacts.{columns_step, one_longer, columns_fault, tells_columns}
use Rattle.rec_csv.proofs.columns.columns_of.Goals as goal

pub inputs-preserved : goal.inputs-preserved
inputs-preserved c =
    let step = columns_step (fields_of c.args.row.now) c.args.wires.now c.args.inputs.now c.inputs.i c.inputs.columns.items c.in-Ok.column c.inputs-test.true (sym c.column_at.ensures ∙ c.in-Ok.is) in (
      c.inputs.invariant.0 ∙ step ∙ ap (λ l. prepended l (columns_of (fields_of c.args.row.now) c.args.wires.now (drop (c.inputs.i + 1) c.args.inputs.now))) (sym c.in-Ok-push.ensures.items),
      one_longer c.inputs.columns.items _ c.in-Ok.column c.inputs.i c.in-Ok-push.ensures.items c.inputs.invariant.1,
    )

pub returns-in-Err-clause-fault : goal.returns-in-Err-clause-fault
returns-in-Err-clause-fault c =
    tells_columns _ _ (c.inputs.invariant.0 ∙ columns_fault (fields_of c.args.row.now) c.args.wires.now c.args.inputs.now c.inputs.i c.inputs.columns.items c.in-Err.fault c.inputs-test.true (sym c.column_at.ensures ∙ c.in-Err.is))
