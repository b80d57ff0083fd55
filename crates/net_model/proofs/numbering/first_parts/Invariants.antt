use Rattle.net_model.proofs.NumberingLemmas.{AreFirstsBelow}
use Rattle.net_model.proofs.numbering.first_parts.Given as goal

abbrev pub invariant-loop-i : goal.invariant-loop-i
invariant-loop-i l = AreFirstsBelow l.wires l.i l.next l.firsts.items
