-- What is left has the head of the whole text, and each line above took a byte at least.
use Rattle.std.proofs.Common.{◌≡◌, ◌+◌, ◌≤◌, length}
use Rattle.text_words.specs.Lines.{lines_from, lines_of}
use Rattle.text_words.specs.Readers.{head_below}
use Rattle.text_words.proofs.head_finder.behind_head.Given as goal

abbrev pub invariant-loop-line : goal.invariant-loop-line
invariant-loop-line l = record {
  same : head_below l.keyword 0 (lines_of l.text) ≡ head_below l.keyword l.above (lines_from l.rest);
  fewer : l.above + length l.rest ≤ length l.text;
}

abbrev pub decreases-loop-line : goal.decreases-loop-line
decreases-loop-line l = length l.rest
