use Rattle.net_model.proofs.NumberingLemmas.{parts_more}
use Rattle.net_model.proofs.numbering.part_list.Goals as goal

pub loop-i-preserved : goal.loop-i-preserved
loop-i-preserved c = parts_more c.args.wires.now c.loop-i.i c.loop-i.parts.items _ c.roles.result.now _ c.loop-i-test.true c.loop-i.invariant c.in_ok-push_parts.ensures c.roles.ensures
