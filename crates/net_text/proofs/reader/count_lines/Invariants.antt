use Rattle.std.proofs.Common.{◌≡◌, ◌+◌, ◌≤◌, length}
use Rattle.text_words.specs.Lines.{lines_from, lines_of}
use Rattle.net_text.proofs.reader.count_lines.Given as goal

-- with what is left, the count is that of all lines
abbrev pub invariant-loop-rest : goal.invariant-loop-rest
invariant-loop-rest l = record {
  same : l.count + length (lines_from l.left) ≡ length (lines_of l.text);
  counted : l.count + length l.left ≤ length l.text;
}

abbrev pub decreases-loop-rest : goal.decreases-loop-rest
decreases-loop-rest l = length l.left
