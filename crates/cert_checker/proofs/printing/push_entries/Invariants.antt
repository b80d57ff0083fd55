use Rattle.std.proofs.Common.{◌≡◌, ◌++◌, drop}
use Rattle.text_words.specs.Printed.{word_lines}
use Rattle.cert_checker.specs.CertificatePrinting.{entry_lines}
use Rattle.cert_checker.proofs.printing.push_entries.Given as goal

-- with what is left, the text is the whole
abbrev pub invariant-loop-k : goal.invariant-loop-k
invariant-loop-k l = l.text.items ++ word_lines (entry_lines l.net l.k (drop l.k l.entries)) ≡ l.fn.text.items ++ word_lines (entry_lines l.net 0 l.entries)
