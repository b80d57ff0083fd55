use Rattle.std.proofs.Common.{◌≡◌, ◌++◌, map, take}
use Rattle.net_text.specs.Printing.{lines_below, axis_words}
use Rattle.net_text.proofs.printing.push_axes.Given as goal

-- the text so far has the lines of the axes so far
abbrev pub invariant-loop-named : goal.invariant-loop-named
invariant-loop-named l = l.text.items ≡ l.fn.text.items ++ lines_below (map axis_words (take l.named-index l.fn.net.axes))
