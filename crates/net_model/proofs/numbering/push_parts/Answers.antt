use Rattle.std.proofs.Common.{◌∙◌}
use Rattle.net_model.proofs.NumberingLemmas.{roles_push}
use Rattle.net_model.proofs.numbering.push_parts.Goals as goal

pub loop-i-preserved : goal.loop-i-preserved
loop-i-preserved c =
    c.in_ok-push.ensures.items ∙ roles_push c.args.parts.now.items c.loop-i.parts.items c.args.wire.0 c.args.roles.now c.loop-i.i _ c.loop-i-test.true c.loop-i.invariant
