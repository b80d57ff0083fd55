use Rattle.std.proofs.Common.{◌∙◌, arith}
use Rattle.net_eval.proofs.StepFacts.{small_number, starts_push, starts_start}
use Rattle.net_eval.proofs.states.start.Goals as goal

pub loop-i-init : goal.loop-i-init
loop-i-init c = c.new-states.ensures.items ∙ starts_start _

pub overflow_cast-i : goal.overflow_cast-i
overflow_cast-i c =
    omega (arith, small_number c.args.net.now c.wires-wires.result.now c.loop-i.i c.wires-wires.ensures.valid c.wires-wires.ensures.wires c.loop-i-test.true)

pub loop-i-preserved : goal.loop-i-preserved
loop-i-preserved c =
    c.in_ok-push.ensures.items ∙ starts_push c.args.net.now c.loop-i.i c.loop-i.states.items c.in_ok-state.state c.in_ok-state.ensures c.loop-i.invariant
