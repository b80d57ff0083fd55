-- What is left is read, below the entries so far, as all lines below the head are, and each line above took a byte at
-- least.
use Rattle.std.proofs.Common.{◌≡◌, ◌+◌, ◌<◌, ◌^◌, [], length}
use Rattle.text_words.specs.Lines.{lines_from}
use Rattle.text_words.specs.Readers.{read_below}
use Rattle.cert_checker.specs.CertificateText.{certificate_reader}
use Rattle.cert_checker.proofs.reader.entries_below.Given as goal

abbrev pub invariant-loop-line : goal.invariant-loop-line
invariant-loop-line l = record {
  same : read_below (certificate_reader l.net) l.fn.head [] (lines_from l.fn.lines) ≡ read_below (certificate_reader l.net) l.above l.entries.items (lines_from l.rest);
  counted : l.above + length l.rest < 2 ^ 32;
}

abbrev pub decreases-loop-line : goal.decreases-loop-line
decreases-loop-line l = length l.rest
