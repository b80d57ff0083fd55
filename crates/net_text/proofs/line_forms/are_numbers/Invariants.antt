use Rattle.std.proofs.Common.{◌≡◌, ◌+◌, drop}
use Rattle.text_words.specs.Lines.{words_of}
use Rattle.net_text.specs.Forms.{are_numbers}
use Rattle.net_text.proofs.line_forms.are_numbers.Given as goal

-- what is left decides
abbrev pub invariant-loop-i : goal.invariant-loop-i
invariant-loop-i l = are_numbers (drop l.i l.ranges) (l.first + l.i) (words_of l.line) ≡ are_numbers l.ranges l.first (words_of l.line)
