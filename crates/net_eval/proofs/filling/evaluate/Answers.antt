use Rattle.std.proofs.Common.{◌∙◌, sym}
use Rattle.net_eval.proofs.RowFacts.{handovers_there, length-filled, length-stepped, length-steps, outs_there, row_after, row_kept, row_left, row_outputs, steps_ready}
use Rattle.net_eval.proofs.filling.evaluate.Goals as goal

pub fill-requires-clause-states : goal.fill-requires-clause-states
fill-requires-clause-states c = c.requires.planned.kept.one_each ∙ sym (length-steps _ _ _ _ c.requires.planned)

pub fill-requires-clause-room : goal.fill-requires-clause-room
fill-requires-clause-room c = c.requires.buffer ∙ sym (length-steps _ _ _ _ c.requires.planned)

pub fill-requires-clause-ready : goal.fill-requires-clause-ready
fill-requires-clause-ready c =
    steps_ready c.args.net.now _ _ _ c.args.inputs.now c.requires.planned c.requires.one_each c.requires.typed

pub hand_over-requires-clause-one_each : goal.hand_over-requires-clause-one_each
hand_over-requires-clause-one_each c =
    length-filled c.args.net.now c.args.steps.now _ _ c.args.inputs.now _ c.fill.ensures.values c.fill.ensures.states

pub hand_over-requires-clause-there : goal.hand_over-requires-clause-there
hand_over-requires-clause-there c =
    handovers_there c.args.net.now c.args.steps.now c.args.handovers.now _ _ c.requires.planned (length-stepped c.args.net.now c.args.steps.now _ _ _ c.args.inputs.now c.requires.planned c.fill.ensures.states)

pub pick-requires-clause-there : goal.pick-requires-clause-there
pick-requires-clause-there c =
    outs_there c.args.net.now c.args.steps.now _ _ c.args.inputs.now _ _ c.requires.planned c.outs.ensures.outs c.fill.ensures.values

pub returns-clause-kept : goal.returns-clause-kept
returns-clause-kept c =
    row_kept c.args.net.now c.args.steps.now c.args.handovers.now _ _ c.args.inputs.now c.requires.planned c.requires.typed (row_left c.args.net.now c.args.steps.now c.args.handovers.now _ _ _ c.args.inputs.now _ c.fill.ensures.values c.fill.ensures.states c.hand_over.ensures)

pub returns-clause-after : goal.returns-clause-after
returns-clause-after c rows after =
    row_after c.args.net.now c.args.steps.now c.args.handovers.now _ _ c.args.inputs.now rows c.requires.planned after (row_left c.args.net.now c.args.steps.now c.args.handovers.now _ _ _ c.args.inputs.now _ c.fill.ensures.values c.fill.ensures.states c.hand_over.ensures)

pub returns-clause-values : goal.returns-clause-values
returns-clause-values c rows after =
    row_outputs c.args.net.now c.args.steps.now c.args.handovers.now _ c.args.inputs.now _ _ c.outs.result.now rows c.requires.planned after c.fill.ensures.values c.outs.ensures.outs c.pick.ensures
