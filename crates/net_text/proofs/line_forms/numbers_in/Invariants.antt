use Rattle.std.proofs.Common.{◌≡◌, ◌+◌, drop, length}
use Rattle.text_words.specs.Lines.{words_of}
use Rattle.net_text.specs.Forms.{numbers_in}
use Rattle.net_text.proofs.LineSteps.{behind}
use Rattle.net_text.proofs.line_forms.numbers_in.Given as goal

-- what is left decides
abbrev pub invariant-loop-i : goal.invariant-loop-i
invariant-loop-i l = (behind l.numbers (numbers_in (drop l.i l.ranges) (l.first + l.i) (words_of l.line)) ≡ numbers_in l.ranges l.first (words_of l.line)) × (length l.numbers ≡ l.i)
