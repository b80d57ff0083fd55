use Rattle.std.proofs.Common.{◌≡◌, ◌++◌, drop}
use Rattle.text_words.specs.Printed.{behind_spaces}
use Rattle.net_text.specs.Printing.{number_words}
use Rattle.net_text.proofs.printing.push_points.Given as goal

-- with what is left, the text is the whole
abbrev pub invariant-loop-i : goal.invariant-loop-i
invariant-loop-i l = l.text.items ++ behind_spaces (number_words (drop l.i l.axis.points)) ≡ l.fn.text.items ++ behind_spaces (number_words l.axis.points)
