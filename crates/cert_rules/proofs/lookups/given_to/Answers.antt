use Rattle.cert_rules.specs.Rules.{part_rule}
use Rattle.cert_rules.proofs.RuleFacts.{given_between, given_is, given_sized, part_from, read_there}
use Rattle.cert_rules.proofs.lookups.given_to.Goals as goal

pub entry_if-first-requires-clause-there : goal.entry_if-first-requires-clause-there
entry_if-first-requires-clause-there c =
    read_there c.args.net.now c.args.all.now (part_rule c.args.net.now c.args.part).reads 0 _ c.requires.allowed (part_from c.args.net.now c.args.part c.item_at.result c.parts_read-reads.result c.as_slice-parts.result.now 0 _ c.item_at.ensures c.parts_read-reads.ensures c.as_slice-parts.ensures.items c.part_among.ensures)

pub entry_if-second-requires-clause-there : goal.entry_if-second-requires-clause-there
entry_if-second-requires-clause-there c =
    read_there c.args.net.now c.args.all.now (part_rule c.args.net.now c.args.part).reads 1 _ c.requires.allowed (part_from c.args.net.now c.args.part c.item_at.result c.parts_read-reads.result c.as_slice-parts.result.now 1 _ c.item_at.ensures c.parts_read-reads.ensures c.as_slice-parts.ensures.items c.part_among-2.ensures)

pub entry_if-third-requires-clause-there : goal.entry_if-third-requires-clause-there
entry_if-third-requires-clause-there c =
    read_there c.args.net.now c.args.all.now (part_rule c.args.net.now c.args.part).reads 2 _ c.requires.allowed (part_from c.args.net.now c.args.part c.item_at.result c.parts_read-reads.result c.as_slice-parts.result.now 2 _ c.item_at.ensures c.parts_read-reads.ensures c.as_slice-parts.ensures.items c.part_among-3.ensures)

pub returns-clause-given : goal.returns-clause-given
returns-clause-given c =
    let reads = (part_rule c.args.net.now c.args.part).reads in
    record {
      first = given_is c.args.net.now c.args.all.now reads 0 _ _ (part_from c.args.net.now c.args.part c.item_at.result c.parts_read-reads.result c.as_slice-parts.result.now 0 _ c.item_at.ensures c.parts_read-reads.ensures c.as_slice-parts.ensures.items c.part_among.ensures) c.entry_if-first.ensures;
      second = given_is c.args.net.now c.args.all.now reads 1 _ _ (part_from c.args.net.now c.args.part c.item_at.result c.parts_read-reads.result c.as_slice-parts.result.now 1 _ c.item_at.ensures c.parts_read-reads.ensures c.as_slice-parts.ensures.items c.part_among-2.ensures) c.entry_if-second.ensures;
      third = given_is c.args.net.now c.args.all.now reads 2 _ _ (part_from c.args.net.now c.args.part c.item_at.result c.parts_read-reads.result c.as_slice-parts.result.now 2 _ c.item_at.ensures c.parts_read-reads.ensures c.as_slice-parts.ensures.items c.part_among-3.ensures) c.entry_if-third.ensures;
    }

pub returns-clause-sized : goal.returns-clause-sized
returns-clause-sized c =
    let reads = (part_rule c.args.net.now c.args.part).reads in
    let between = given_between c.args.net.now c.args.all.now reads _ _ c.requires.allowed (part_from c.args.net.now c.args.part c.item_at.result c.parts_read-reads.result c.as_slice-parts.result.now 0 _ c.item_at.ensures c.parts_read-reads.ensures c.as_slice-parts.ensures.items c.part_among.ensures) c.entry_if-first.ensures in
    record {
      first = given_sized c.args.net.now c.args.all.now reads 0 _ _ c.requires.valid c.requires.allowed (part_from c.args.net.now c.args.part c.item_at.result c.parts_read-reads.result c.as_slice-parts.result.now 0 _ c.item_at.ensures c.parts_read-reads.ensures c.as_slice-parts.ensures.items c.part_among.ensures) c.entry_if-first.ensures;
      second = given_sized c.args.net.now c.args.all.now reads 1 _ _ c.requires.valid c.requires.allowed (part_from c.args.net.now c.args.part c.item_at.result c.parts_read-reads.result c.as_slice-parts.result.now 1 _ c.item_at.ensures c.parts_read-reads.ensures c.as_slice-parts.ensures.items c.part_among-2.ensures) c.entry_if-second.ensures;
      third = given_sized c.args.net.now c.args.all.now reads 2 _ _ c.requires.valid c.requires.allowed (part_from c.args.net.now c.args.part c.item_at.result c.parts_read-reads.result c.as_slice-parts.result.now 2 _ c.item_at.ensures c.parts_read-reads.ensures c.as_slice-parts.ensures.items c.part_among-3.ensures) c.entry_if-third.ensures;
      low = between.low;
      high = between.high;
    }
