use Rattle.std.proofs.Common.{rules}
use Rattle.std.proofs.lemmas.List.{get_or_default}
use Rattle.net_eval.specs.declared.states.State.TheVariants.{Nothing}
use Rattle.net_eval.proofs.StepFacts.{handed_none, handed_push}
use Rattle.net_eval.proofs.filling.hand_over.Goals as goal

pub loop-k-init : goal.loop-k-init
loop-k-init c = handed_none _ _

pub loop-k-preserved : goal.loop-k-preserved
loop-k-preserved c =
    handed_push c.args.handovers.now c.args.values.now c.args.states.now c.loop-k.states c.loop-k.k _ _ c.hold.new.state c.loop-k-test.true (search rules) (get_or_default c.loop-k.states _ _ Nothing (search rules)) c.hold.ensures c.loop-k.invariant
