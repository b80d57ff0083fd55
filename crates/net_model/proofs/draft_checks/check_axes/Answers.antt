use Rattle.std.proofs.Common.{rules, sym, ◌∙◌}
use Rattle.std.proofs.lemmas.List.{get_or_default}
use Rattle.net_model.specs.Wires.{no_axis}
use Rattle.net_model.proofs.ListNames.{axes_step}
use Rattle.net_model.proofs.draft_checks.check_axes.Goals as goal

pub loop-i-preserved : goal.loop-i-preserved
loop-i-preserved c =
    axes_step c.args.axes.now c.loop-i.i _ c.loop-i-test.true (c.index-axes-i.is ∙ get_or_default c.args.axes.now c.loop-i.i _ no_axis c.loop-i-test.true) (sym c.check_axis.ensures.value ∙ (search rules)) c.check_axis.ensures.axis c.loop-i.invariant
