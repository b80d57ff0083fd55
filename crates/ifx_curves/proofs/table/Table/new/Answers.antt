use Rattle.std.proofs.Common.{rules, ◌≡◌, sym, subst}
use Rattle.ifx_curves.specs.Tables.{IsTable, table_fault}
use Rattle.std.proofs.Common.{None}
use Rattle.ifx_curves.proofs.TableFaults.{is_table}
use Rattle.ifx_curves.proofs.table.Table.new.Goals as goal

pub invariant_of-result : goal.invariant_of-result
invariant_of-result c =
    let none : table_fault c.args.ty c.args.values.now ≡ None = search rules in
    subst (IsTable c.args.ty) (sym c.in_ok-values.ensures.items) (is_table c.args.ty c.args.values.now c.requires.narrow none)
