use Rattle.std.proofs.Common.{◌≡◌, ◌++◌, drop}
use Rattle.text_words.specs.Printed.{behind_spaces}
use Rattle.net_text.specs.Printing.{argument_words}
use Rattle.net_text.proofs.printing.push_arguments.Given as goal

-- with what is left, the text is the whole
abbrev pub invariant-loop-wire : goal.invariant-loop-wire
invariant-loop-wire l = l.text.items ++ behind_spaces (argument_words l.all (drop l.wire-index l.wires)) ≡ l.fn.text.items ++ behind_spaces (argument_words l.all l.wires)
