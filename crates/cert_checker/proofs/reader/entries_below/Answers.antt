use Rattle.std.proofs.Common.{◌≡◌, ◌≢◌, ◌+◌, ◌<◌, ◌∙◌, sym, ap, length, arith}
use Rattle.text_words.specs.Lines.{lines_from, words_of}
use Rattle.text_words.specs.Readers.{read_below}
use Rattle.text_words.proofs.ReaderSteps.{read_below-blank}
use Rattle.cert_checker.specs.CertificateText.{certificate_reader}
use Rattle.cert_checker.proofs.CertificateSteps.{line-accepted, line-refused, end-complete, end-missing}
use Rattle.cert_checker.proofs.CertificateLaws.{few_entries}
use Rattle.cert_checker.proofs.reader.entries_below.Goals as goal

-- a line without words
pub loop-line-preserved : goal.loop-line-preserved
loop-line-preserved c =
    let wires = c.args.net.now in
    let above = c.loop-line.above in
    let entries = c.loop-line.entries.items in
    let line = c.in-Some.line.now in
    let none : length (words_of line) ≡ 0 = omega (arith, c.count_words.ensures, c.if-count_words-gt0.false) in
    record {
      same = c.loop-line.invariant.same ∙ ap (read_below (certificate_reader wires) above entries) c.in-Some.ensures.lines ∙ read_below-blank (certificate_reader wires) above entries line (lines_from c.in-Some.after.now) none;
      counted = omega (arith, c.loop-line.invariant.counted, c.in-Some.ensures.shorter);
    }

pub returns-in-Err-clause-reads : goal.returns-in-Err-clause-reads
returns-in-Err-clause-reads c =
    let wires = c.args.net.now in
    let above = c.loop-line.above in
    let entries = c.loop-line.entries.items in
    let line = c.in-Some.line.now in
    let some : 0 < length (words_of line) = omega (arith, c.count_words.ensures, c.if-count_words-gt0.true) in
    let next : c.len.result ≡ length entries = omega (arith, c.len.ensures, c.loop-line.entries.ok) in
    c.loop-line.invariant.same ∙ ap (read_below (certificate_reader wires) above entries) c.in-Some.ensures.lines ∙ line-refused wires above entries line (lines_from c.in-Some.after.now) c.in-Err.kind c.len.result next some c.in-Err.ensures

-- a line of a part
pub loop-line-preserved-in-Ok-push : goal.loop-line-preserved-in-Ok-push
loop-line-preserved-in-Ok-push c =
    let wires = c.args.net.now in
    let above = c.loop-line.above in
    let entries = c.loop-line.entries.items in
    let line = c.in-Some.line.now in
    let after = lines_from c.in-Some.after.now in
    let some : 0 < length (words_of line) = omega (arith, c.count_words.ensures, c.if-count_words-gt0.true) in
    let next : c.len.result ≡ length entries = omega (arith, c.len.ensures, c.loop-line.entries.ok) in
    record {
      same = c.loop-line.invariant.same ∙ ap (read_below (certificate_reader wires) above entries) c.in-Some.ensures.lines ∙ line-accepted wires above entries line after c.in-Ok-part_line.entry c.len.result next some c.in-Ok-part_line.ensures ∙ ap (λ now. read_below (certificate_reader wires) (above + 1) now after) (sym c.in-Ok-push.ensures.items);
      counted = omega (arith, c.loop-line.invariant.counted, c.in-Some.ensures.shorter);
    }

pub returns-then-len-parts-clause-complete : goal.returns-then-len-parts-clause-complete
returns-then-len-parts-clause-complete c =
    let complete : length c.loop-line.entries.items ≡ length c.parts-2.result.now = omega (arith, c.if-len-parts.true, c.len-2.ensures, c.loop-line.entries.ok) in
    complete ∙ ap length c.parts-2.ensures.parts

pub returns-then-len-parts-clause-few : goal.returns-then-len-parts-clause-few
returns-then-len-parts-clause-few c =
    few_entries c.args.net.now c.loop-line.entries.items c.parts.ensures.valid (returns-then-len-parts-clause-complete c)

pub returns-then-len-parts-clause-reads : goal.returns-then-len-parts-clause-reads
returns-then-len-parts-clause-reads c =
    let wires = c.args.net.now in
    let above = c.loop-line.above in
    let entries = c.loop-line.entries.items in
    c.loop-line.invariant.same ∙ ap (read_below (certificate_reader wires) above entries) c.in_default-next_line.ensures.lines ∙ end-complete wires above entries (returns-then-len-parts-clause-complete c)

pub returns-else-len-parts-clause-reads : goal.returns-else-len-parts-clause-reads
returns-else-len-parts-clause-reads c =
    let wires = c.args.net.now in
    let above = c.loop-line.above in
    let entries = c.loop-line.entries.items in
    let missing : length entries ≢ length c.parts-2.result.now = omega (arith, c.if-len-parts.false, c.len-2.ensures, c.loop-line.entries.ok) in
    c.loop-line.invariant.same ∙ ap (read_below (certificate_reader wires) above entries) c.in_default-next_line.ensures.lines ∙ end-missing wires above entries _ (ap length c.parts-2.ensures.parts) missing
