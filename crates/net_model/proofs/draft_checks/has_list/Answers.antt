use Rattle.std.proofs.Common.{◌||◌, ap, sym, ◌∙◌}
use Rattle.net_model.specs.Validity.{axis_names, table_names}
use Rattle.net_model.specs.Faults.{is_named}
use Rattle.net_model.proofs.ListNames.{named_both}
use Rattle.net_model.proofs.draft_checks.has_list.Goals as goal

pub returns-then-has_axis : goal.returns-then-has_axis
returns-then-has_axis c =
    let axes = axis_names c.args.axes.now in
    let tables = table_names c.args.tables.now in
    let name = c.args.name.now in
    ap (λ t. t || is_named tables name) (sym c.if-has_axis.true ∙ c.has_axis.ensures) ∙ sym (named_both name axes tables)

pub returns : goal.returns
returns c =
    let axes = axis_names c.args.axes.now in
    let tables = table_names c.args.tables.now in
    let name = c.args.name.now in
    c.has_table.ensures ∙ ap (λ t. t || is_named tables name) (sym c.if-has_axis.false ∙ c.has_axis.ensures) ∙ sym (named_both name axes tables)
