-- What is left has the header of the whole recording.
use Rattle.std.proofs.Common.{◌≡◌, length}
use Rattle.text_words.specs.Lines.{lines_from, lines_of}
use Rattle.rec_csv.specs.Recordings.{head_of}
use Rattle.bench_core.proofs.running.head.Given as goal

abbrev pub invariant-loop-line : goal.invariant-loop-line
invariant-loop-line l = head_of l.network.wires (lines_of l.recording) ≡ head_of l.network.wires (lines_from l.rest)

abbrev pub decreases-loop-line : goal.decreases-loop-line
decreases-loop-line l = length l.rest
