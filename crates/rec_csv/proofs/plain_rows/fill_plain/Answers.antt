use Rattle.std.proofs.Common.{◌≡◌, true, sym, ◌∙◌, arith}
use Rattle.std.specs.Cmp.Derive.{both_true}
use Rattle.std.specs.List.{list_all}
use Rattle.text_words.specs.Lines.{pieces}
use Rattle.rec_csv.specs.Fields.{is_comma, is_plain_byte}
use Rattle.rec_csv.proofs.WalkFacts.{ends, plain_more, rest_more, known_more, known_past}
use Rattle.rec_csv.proofs.plain_rows.fill_plain.Goals as goal
use Rattle.rec_csv.proofs.plain_rows.fill_plain.Goals.{in-Some-slot, in_default-slot}

-- an input of the table is one of the columns
pub bounds-columns-input : goal.bounds-columns-input
bounds-columns-input c =
    (c.requires.table.no_other c.slots.slot-index c.in-Some-slot.number c.in-Some-slot.is).0

pub with_field-verdict-requires : goal.with_field-verdict-requires
with_field-verdict-requires c =
    let inside = (c.requires.table.no_other c.slots.slot-index c.in-Some-slot.number c.in-Some-slot.is).0 in
    omega (arith, inside, c.slots.invariant.known.one_each)

-- one more field
pub slots-preserved : goal.slots-preserved
slots-preserved c =
    let columns = c.args.columns.now in
    let slots = c.args.slots.now in
    let fields = pieces is_comma c.args.line.now in
    let place = c.slots.slot-index in
    let bytes = c.in-Some.bytes.now in
    let left = rw c.in-Some.is at c.slots.invariant.rest in
    let more = rest_more fields place bytes c.in-Some-first_field.field.now c.in-Some-first_field.behind left c.in-Some-first_field.ensures.cut in
    record {
      within = omega (arith, more.0);
      rest = more.2;
      plain = plain_more (list_all is_plain_byte c.args.line.now) bytes c.in-Some-first_field.behind (rw c.in-Some.is at c.slots.invariant.plain) c.in-Some-first_field.ensures.plain;
      known = elim c.match-slot.branch [
        | in-Some-slot w ↦
            rw (w.values-is, w.with_field-verdict.ensures.values, w.verdict-is, w.with_field-verdict.ensures.verdict) (known_more columns slots fields c.in-Some-first_field.field.now c.slots.values c.slots.verdict place w.in-Some-slot.number c.requires.table w.in-Some-slot.is more.1 c.slots.invariant.known)
        | in_default-slot w ↦
            rw (w.values-is, w.verdict-is) (known_past columns slots fields c.slots.values c.slots.verdict place c.requires.table w.in_default-slot.is c.slots.invariant.known)
      ];
    }

-- behind the last slot, with more fields
pub returns-else-not-are_plain-clause-fault : goal.returns-else-not-are_plain-clause-fault
returns-else-not-are_plain-clause-fault c =
    let all : list_all is_plain_byte c.args.line.now ≡ true = (rw c.in-Some-left.is at c.slots.invariant.plain) ∙ (sym c.are_plain.ensures ∙ c.if-not-are_plain.false) in
    let plain = both_true (sym c.begins_plain.ensures ∙ c.if-not-begins_plain.false) all in
    (ends c.args.columns.now c.args.slots.now c.args.line.now c.slots.values c.slots.verdict c.slots.slot-index plain c.requires.table (omega arith) c.slots.invariant.within c.slots.invariant.known).fault_is

pub returns-else-not-are_plain-clause-before : goal.returns-else-not-are_plain-clause-before
returns-else-not-are_plain-clause-before c =
    let all : list_all is_plain_byte c.args.line.now ≡ true = (rw c.in-Some-left.is at c.slots.invariant.plain) ∙ (sym c.are_plain.ensures ∙ c.if-not-are_plain.false) in
    let plain = both_true (sym c.begins_plain.ensures ∙ c.if-not-begins_plain.false) all in
    (ends c.args.columns.now c.args.slots.now c.args.line.now c.slots.values c.slots.verdict c.slots.slot-index plain c.requires.table (omega arith) c.slots.invariant.within c.slots.invariant.known).before_is

-- and without
pub returns-in_default-left-clause-fault : goal.returns-in_default-left-clause-fault
returns-in_default-left-clause-fault c =
    let all : list_all is_plain_byte c.args.line.now ≡ true = rw c.in_default-left.is at c.slots.invariant.plain in
    let plain = both_true (sym c.begins_plain.ensures ∙ c.if-not-begins_plain.false) all in
    (ends c.args.columns.now c.args.slots.now c.args.line.now c.slots.values c.slots.verdict c.slots.slot-index plain c.requires.table (omega arith) c.slots.invariant.within c.slots.invariant.known).fault_is

pub returns-in_default-left-clause-before : goal.returns-in_default-left-clause-before
returns-in_default-left-clause-before c =
    let all : list_all is_plain_byte c.args.line.now ≡ true = rw c.in_default-left.is at c.slots.invariant.plain in
    let plain = both_true (sym c.begins_plain.ensures ∙ c.if-not-begins_plain.false) all in
    (ends c.args.columns.now c.args.slots.now c.args.line.now c.slots.values c.slots.verdict c.slots.slot-index plain c.requires.table (omega arith) c.slots.invariant.within c.slots.invariant.known).before_is
