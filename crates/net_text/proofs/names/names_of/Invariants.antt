use Rattle.std.proofs.Common.{◌≡◌, ◌+◌, ◌≤◌, length, map}
use Rattle.text_words.specs.Lines.{lines_from, lines_of}
use Rattle.net_text.specs.Names.{names_below, names_of}
use Rattle.net_text.proofs.names.names_of.Given as goal

abbrev pub invariant-loop-line : goal.invariant-loop-line
invariant-loop-line l = record {
  named : names_below l.sort (map (λ k. k.now) l.names.keys) (lines_from l.left) ≡ names_of l.sort (lines_of l.text);
  few : length l.names.keys + length l.left ≤ length l.text;
}

abbrev pub decreases-loop-line : goal.decreases-loop-line
decreases-loop-line l = length l.left
