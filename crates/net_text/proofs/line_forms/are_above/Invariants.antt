use Rattle.std.proofs.Common.{◌≡◌, ◌+◌, ◌-◌}
use Rattle.text_words.specs.Lines.{words_of}
use Rattle.net_text.specs.Forms.{all_pass, is_above}
use Rattle.net_text.proofs.line_forms.are_above.Given as goal

-- what is left decides
abbrev pub invariant-loop-i : goal.invariant-loop-i
invariant-loop-i l = all_pass (is_above l.above.net) (l.count - l.i) (5 + l.i) (words_of l.line) ≡ all_pass (is_above l.above.net) l.count 5 (words_of l.line)
