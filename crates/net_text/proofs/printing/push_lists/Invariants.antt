use Rattle.std.proofs.Common.{◌≡◌, ◌++◌, drop}
use Rattle.text_words.specs.Printed.{behind_spaces}
use Rattle.net_text.specs.Printing.{list_words}
use Rattle.net_text.proofs.printing.push_lists.Given as goal

-- with what is left, the text is the whole
abbrev pub invariant-loop-i : goal.invariant-loop-i
invariant-loop-i l = l.text.items ++ behind_spaces (list_words l.net (drop l.i l.sorts) (drop l.i l.lists)) ≡ l.fn.text.items ++ behind_spaces (list_words l.net l.sorts l.lists)
