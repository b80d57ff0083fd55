use Rattle.std.proofs.Common.{◌∙◌, ap, arith, length, refl}
use Rattle.std.proofs.lemmas.List.{get_or_default}
use Rattle.net_eval.specs.declared.states.State.TheVariants.{Nothing}
use Rattle.net_eval.proofs.RowFacts.{restarts_set}
use Rattle.net_eval.proofs.StepFacts.{rest_set, small_number, starts_start}
use Rattle.net_eval.proofs.states.restart.Goals as goal

pub loop-i-init : goal.loop-i-init
loop-i-init c = (starts_start _, λ k le. refl)

pub overflow_cast-i : goal.overflow_cast-i
overflow_cast-i c =
    omega (arith, small_number c.args.net.now c.wires-wires.result.now c.loop-i.i c.wires-wires.ensures.valid c.wires-wires.ensures.wires c.loop-i-test.true)

pub loop-i-preserved : goal.loop-i-preserved
loop-i-preserved c = (
  restarts_set c.args.net.now c.loop-i.i c.args.states.now c.loop-i.states c.item_at.result _ c.put_back.new.state c.requires c.wires-wires.ensures.valid (omega (arith, c.loop-i-test.true, ap length c.wires-wires.ensures.wires)) (omega (arith, c.loop-i-test.true, ap length c.wires-wires.ensures.wires, c.requires.one_each)) c.item_at.ensures (get_or_default c.loop-i.states c.loop-i.i _ Nothing (omega (arith, c.loop-i-test.true, ap length c.wires-wires.ensures.wires, c.requires.one_each)) ∙ c.loop-i.invariant.1 c.loop-i.i (omega arith)) c.put_back.ensures c.loop-i.invariant.0,
  rest_set c.args.states.now c.loop-i.states c.loop-i.i c.put_back.new.state c.loop-i.invariant.1,
)
