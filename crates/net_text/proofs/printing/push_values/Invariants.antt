use Rattle.std.proofs.Common.{◌≡◌, ◌++◌, drop}
use Rattle.text_words.specs.Printed.{behind_spaces}
use Rattle.net_text.specs.Printing.{number_words}
use Rattle.net_text.proofs.printing.push_values.Given as goal

-- with what is left, the text is the whole
abbrev pub invariant-loop-i : goal.invariant-loop-i
invariant-loop-i l = l.text.items ++ behind_spaces (number_words (drop l.i l.table.values)) ≡ l.fn.text.items ++ behind_spaces (number_words l.table.values)
