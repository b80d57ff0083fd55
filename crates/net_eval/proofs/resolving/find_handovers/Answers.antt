use Rattle.std.proofs.Common.{◌∙◌, ap, sym, arith}
use Rattle.net_eval.proofs.StepFacts.{small_number, handovers_start, handovers_push, handovers_same}
use Rattle.net_eval.proofs.resolving.find_handovers.Goals as goal
use Rattle.net_eval.proofs.resolving.find_handovers.Goals.{in-Delay+in_ok-push, in_default}

pub loop-i-init : goal.loop-i-init
loop-i-init c = c.new-handovers.ensures.items ∙ handovers_start _

pub overflow_cast-i : goal.overflow_cast-i
overflow_cast-i c =
    omega (arith, small_number c.args.net.now c.wires-wires.result.now c.loop-i.i c.wires-wires.ensures.valid c.wires-wires.ensures.wires c.loop-i-test.true)

pub loop-i-preserved : goal.loop-i-preserved
loop-i-preserved c =
    elim c.match-item_at.branch [
      | in-Delay+in_ok-push w ↦ ap (λ v. v.items) w.handovers-is ∙ w.in_ok-push.ensures.items ∙ handovers_push c.args.net.now c.loop-i.i c.loop-i.handovers.items _ (sym w.in-Delay.is ∙ c.item_at.ensures) c.loop-i.invariant
      | in_default w ↦ ap (λ v. v.items) w.handovers-is ∙ handovers_same c.args.net.now c.loop-i.i c.loop-i.handovers.items c.item_at.result c.item_at.ensures w.in_default.not-Delay c.loop-i.invariant
    ]
