use Rattle.net_model.proofs.NumberingLemmas.{AreInputsBelow}
use Rattle.net_model.proofs.numbering.input_numbers.Given as goal

abbrev pub invariant-loop-i : goal.invariant-loop-i
invariant-loop-i l = AreInputsBelow l.wires l.i l.numbers.items
