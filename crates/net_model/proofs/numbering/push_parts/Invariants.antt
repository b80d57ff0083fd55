use Rattle.std.proofs.Common.{◌≡◌, ◌++◌, map, take}
use Rattle.net_model.proofs.PartPlaces.{part_of}
use Rattle.net_model.proofs.numbering.push_parts.Given as goal

abbrev pub invariant-loop-i : goal.invariant-loop-i
invariant-loop-i l = l.parts.items ≡ l.fn.parts.items ++ map (part_of l.wire.0) (take l.i l.roles)
