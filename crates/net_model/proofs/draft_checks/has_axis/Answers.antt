use Rattle.std.proofs.Common.{◌∙◌}
use Rattle.net_model.proofs.ListNames.{named_axis}
use Rattle.net_model.proofs.draft_checks.has_axis.Goals as goal

pub returns : goal.returns
returns c = c.is_name_of_axis.ensures ∙ named_axis c.args.name.now c.args.axes.now
