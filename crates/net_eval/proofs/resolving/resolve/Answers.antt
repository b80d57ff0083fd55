use Rattle.std.proofs.Common.{◌∙◌, arith}
use Rattle.net_eval.proofs.StepFacts.{small_number, small_place, place_behind, place_kept, steps_push}
use Rattle.net_eval.proofs.resolving.resolve.Goals as goal
use Rattle.net_eval.proofs.resolving.resolve.Goals.{then-is_input, else-is_input}

pub overflow_cast-wire : goal.overflow_cast-wire
overflow_cast-wire c =
    omega (arith, small_number c.args.net.now c.wires-wires.result.now c.loop-i.i c.wires-wires.ensures.valid c.wires-wires.ensures.wires c.loop-i-test.true)

pub overflow_add-inputs : goal.overflow_add-inputs
overflow_add-inputs c =
    omega (arith, small_place c.args.net.now c.wires-wires.result.now c.loop-i.i c.loop-i.inputs c.wires-wires.ensures.valid c.wires-wires.ensures.wires c.loop-i-test.true c.loop-i.invariant.0)

pub loop-i-preserved : goal.loop-i-preserved
loop-i-preserved c = (
  elim c.if-is_input.branch [
    | then-is_input w ↦ place_behind c.args.net.now.wires c.wires-wires.result.now c.loop-i.i c.loop-i.inputs c.if-is_input.inputs c.item_at.result c.is_input.result c.wires-wires.ensures.wires c.loop-i-test.true c.item_at.ensures c.is_input.ensures c.loop-i.invariant.0 w.if-is_input.true w.inputs-is
    | else-is_input w ↦ place_kept c.args.net.now.wires c.wires-wires.result.now c.loop-i.i c.loop-i.inputs c.if-is_input.inputs c.item_at.result c.is_input.result c.wires-wires.ensures.wires c.loop-i-test.true c.item_at.ensures c.is_input.ensures c.loop-i.invariant.0 w.if-is_input.false w.inputs-is
  ],
  c.in_ok-push.ensures.items ∙ steps_push c.args.net.now c.loop-i.i c.loop-i.steps.items c.step_of.result c.step_of.ensures c.loop-i.invariant.1,
)
