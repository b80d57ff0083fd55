use Rattle.std.proofs.Common.{◌∙◌, arith, refl, rules}
use Rattle.std.proofs.lemmas.List.{get_or_default, get_or_read}
use Rattle.net_eval.specs.declared.states.State.TheVariants.{Nothing}
use Rattle.net_eval.specs.declared.steps.Step.TheVariants.{Read}
use Rattle.net_eval.proofs.StepFacts.{rest_set, states_set, states_start, values_push, values_start}
use Rattle.net_eval.proofs.filling.fill.Goals as goal

pub loop-i-init : goal.loop-i-init
loop-i-init c = (values_start _ _ _ _, states_start _ _ _ _, λ k le. refl)

pub loop-i-preserved : goal.loop-i-preserved
loop-i-preserved c =
    let step = get_or_read c.args.steps.now c.loop-i.i c.index-steps-i.result c.loop-i-test.true c.index-steps-i.is (Read 0) in (
      values_push c.args.net.now c.args.steps.now c.args.states.now c.args.inputs.now c.loop-i.values c.loop-i.i c.index-steps-i.result _ _ c.step_value-value.result (omega arith) c.loop-i.invariant.0 (search rules) c.step_value-value.ensures.value step (get_or_default c.loop-i.states c.loop-i.i _ Nothing (omega arith) ∙ c.loop-i.invariant.2 c.loop-i.i (omega arith)),
      states_set c.args.net.now c.args.steps.now c.args.states.now c.loop-i.states c.args.inputs.now c.loop-i.values c.loop-i.i c.index-steps-i.result _ c.step_value-value.new.state (omega arith) c.loop-i.invariant.0 c.loop-i.invariant.1 c.step_value-value.ensures.state step (get_or_default c.loop-i.states c.loop-i.i _ Nothing (omega arith) ∙ c.loop-i.invariant.2 c.loop-i.i (omega arith)),
      rest_set c.args.states.now c.loop-i.states c.loop-i.i c.step_value-value.new.state c.loop-i.invariant.2,
    )
