use Rattle.std.proofs.Common.{◌≡◌, ◌++◌, map, take}
use Rattle.net_text.specs.Printing.{lines_below, wire_words}
use Rattle.net_text.proofs.printing.push_wires.Given as goal

-- the text so far has the lines of the wires so far
abbrev pub invariant-loop-wire : goal.invariant-loop-wire
invariant-loop-wire l = l.text.items ≡ l.fn.text.items ++ lines_below (map (wire_words l.fn.net) (take l.wire-index l.fn.net.wires))
