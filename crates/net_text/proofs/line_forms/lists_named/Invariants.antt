use Rattle.std.proofs.Common.{◌≡◌, ◌+◌, drop, length}
use Rattle.text_words.specs.Lines.{words_of}
use Rattle.net_text.specs.Forms.{lists_named}
use Rattle.net_text.proofs.LineSteps.{behind}
use Rattle.net_text.proofs.line_forms.lists_named.Given as goal

-- what is left decides
abbrev pub invariant-loop-i : goal.invariant-loop-i
invariant-loop-i l = (behind l.lists (lists_named l.above.net (drop l.i l.sorts) (l.first + l.i) (words_of l.line)) ≡ lists_named l.above.net l.sorts l.first (words_of l.line)) × (length l.lists ≡ l.i)
