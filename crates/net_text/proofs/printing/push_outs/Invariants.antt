use Rattle.std.proofs.Common.{◌≡◌, ◌++◌, map, take}
use Rattle.net_text.specs.Printing.{lines_below, out_words}
use Rattle.net_text.proofs.printing.push_outs.Given as goal

-- the text so far has the lines of the outputs so far
abbrev pub invariant-loop-out : goal.invariant-loop-out
invariant-loop-out l = l.text.items ≡ l.fn.text.items ++ lines_below (map (out_words l.fn.net.wires) (take l.out-index l.fn.net.outs))
