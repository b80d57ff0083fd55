use Rattle.std.proofs.Common.{◌≡◌, ◌+◌, drop, length}
use Rattle.text_words.specs.Lines.{words_of}
use Rattle.net_text.specs.Forms.{wires_named}
use Rattle.net_text.proofs.LineSteps.{behind}
use Rattle.net_text.proofs.line_forms.wires_named.Given as goal

-- what is left decides
abbrev pub invariant-loop-i : goal.invariant-loop-i
invariant-loop-i l = (behind l.wires (wires_named l.above.net.wires (drop l.i l.sorts) (5 + l.i) (words_of l.line)) ≡ wires_named l.above.net.wires l.sorts 5 (words_of l.line)) × (length l.wires ≡ l.i)
