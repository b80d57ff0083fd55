use Rattle.std.proofs.Common.{take}
use Rattle.net_model.specs.NameMap.{HasNumbersOf}
use Rattle.net_model.proofs.numbering.name_map.Given as goal

-- the names of the wires above have their numbers
abbrev pub invariant-loop-i : goal.invariant-loop-i
invariant-loop-i l = HasNumbersOf (take l.i l.wires) l.names
