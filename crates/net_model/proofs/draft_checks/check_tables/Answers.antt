use Rattle.std.proofs.Common.{rules, sym, ◌∙◌}
use Rattle.std.proofs.lemmas.List.{get_or_default}
use Rattle.net_model.specs.Wires.{no_table}
use Rattle.net_model.proofs.ListNames.{tables_step}
use Rattle.net_model.proofs.draft_checks.check_tables.Goals as goal

pub loop-i-preserved : goal.loop-i-preserved
loop-i-preserved c =
    tables_step c.args.axes.now c.args.tables.now c.loop-i.i _ c.loop-i-test.true (c.index-tables-i.is ∙ get_or_default c.args.tables.now c.loop-i.i _ no_table c.loop-i-test.true) (sym c.check_table.ensures.value ∙ (search rules)) c.check_table.ensures.table c.loop-i.invariant
