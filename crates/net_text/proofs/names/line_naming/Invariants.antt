use Rattle.std.proofs.Common.{◌≡◌, ◌+◌, ◌≤◌, length}
use Rattle.text_words.specs.Lines.{lines_from, lines_of}
use Rattle.net_text.specs.Names.{line_naming}
use Rattle.net_text.proofs.names.line_naming.Given as goal

-- with what is left, the count is the line's number
abbrev pub invariant-loop-line : goal.invariant-loop-line
invariant-loop-line l = record {
  same : l.above + line_naming (lines_from l.left) l.name ≡ line_naming (lines_of l.text) l.name;
  counted : l.above + length l.left ≤ length l.text;
}

abbrev pub decreases-loop-line : goal.decreases-loop-line
decreases-loop-line l = length l.left
