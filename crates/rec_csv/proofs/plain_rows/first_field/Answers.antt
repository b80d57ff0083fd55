use Rattle.std.proofs.Common.{◌≡◌, length, drop, ap, arith}
use Rattle.rec_csv.proofs.PlainLines.{comma_behind, field_last, other_behind}
use Rattle.rec_csv.proofs.plain_rows.first_field.Goals as goal

pub returns-in-empty-clause-cut : goal.returns-in-empty-clause-cut
returns-in-empty-clause-cut c =
    let n = c.field_len.result in
    let bytes = c.args.bytes.now in
    let none : length (drop n bytes) ≡ 0 = omega (arith, ap length c.split_at.ensures.back) in
    rw c.split_at.ensures.front (field_last bytes n c.field_len.ensures.value none).0

pub returns-in-empty-clause-plain : goal.returns-in-empty-clause-plain
returns-in-empty-clause-plain c =
    let n = c.field_len.result in
    let bytes = c.args.bytes.now in
    let none : length (drop n bytes) ≡ 0 = omega (arith, ap length c.split_at.ensures.back) in
    (field_last bytes n c.field_len.ensures.value none).1

pub returns-then-first-eq44-clause-cut : goal.returns-then-first-eq44-clause-cut
returns-then-first-eq44-clause-cut c =
    (comma_behind c.args.bytes.now c.split_at.result.0.now c.split_at.result.1.now c.field_len.result c.field_len.ensures.value c.split_at.ensures.front c.split_at.ensures.back c.in-len1-up.len_at_least c.if-first-eq44.true).0

pub returns-then-first-eq44-clause-plain : goal.returns-then-first-eq44-clause-plain
returns-then-first-eq44-clause-plain c =
    (comma_behind c.args.bytes.now c.split_at.result.0.now c.split_at.result.1.now c.field_len.result c.field_len.ensures.value c.split_at.ensures.front c.split_at.ensures.back c.in-len1-up.len_at_least c.if-first-eq44.true).1

pub returns-else-first-eq44-clause-plain : goal.returns-else-first-eq44-clause-plain
returns-else-first-eq44-clause-plain c =
    other_behind c.args.bytes.now c.split_at.result.1.now c.field_len.result c.field_len.ensures.value c.split_at.ensures.back c.in-len1-up.len_at_least c.if-first-eq44.false
