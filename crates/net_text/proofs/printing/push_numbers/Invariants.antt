use Rattle.std.proofs.Common.{◌≡◌, ◌++◌, drop}
use Rattle.text_words.specs.Printed.{behind_spaces}
use Rattle.net_text.specs.Printing.{number_words}
use Rattle.net_text.proofs.printing.push_numbers.Given as goal

-- with what is left, the text is the whole
abbrev pub invariant-loop-number : goal.invariant-loop-number
invariant-loop-number l = l.text.items ++ behind_spaces (number_words (drop l.number-index l.numbers)) ≡ l.fn.text.items ++ behind_spaces (number_words l.numbers)
