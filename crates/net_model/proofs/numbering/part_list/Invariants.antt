use Rattle.net_model.proofs.NumberingLemmas.{ArePartsBelow}
use Rattle.net_model.proofs.numbering.part_list.Given as goal

abbrev pub invariant-loop-i : goal.invariant-loop-i
invariant-loop-i l = ArePartsBelow l.wires l.i l.parts.items
