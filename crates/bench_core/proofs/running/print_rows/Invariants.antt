-- The run is under way, each row took a byte at least, and the sink's count of faults hasn't fallen.
use Rattle.std.proofs.Common.{◌+◌, ◌≤◌, length}
use Rattle.text_words.specs.Lines.{lines_from}
use Rattle.bench_core.proofs.RunLaws.{IsUnderWay}
use Rattle.bench_core.proofs.running.print_rows.Given as goal

abbrev pub invariant-loop-line : goal.invariant-loop-line
invariant-loop-line g l = record {
  under : IsUnderWay l.network l.header (lines_from l.below) (lines_from l.rest) l.number l.evaluation l.text.items (g.O.Sink.written l.fn.out) (g.O.Sink.written l.out);
  fewer : l.number + length l.rest ≤ length l.below;
  counted : g.O.Sink.faults l.fn.out ≤ g.O.Sink.faults l.out;
}

abbrev pub decreases-loop-line : goal.decreases-loop-line
decreases-loop-line g l = length l.rest
