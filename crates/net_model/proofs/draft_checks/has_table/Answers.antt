use Rattle.std.proofs.Common.{◌∙◌}
use Rattle.net_model.proofs.ListNames.{named_table}
use Rattle.net_model.proofs.draft_checks.has_table.Goals as goal

pub returns : goal.returns
returns c = c.is_name_of_table.ensures ∙ named_table c.args.name.now c.args.tables.now
