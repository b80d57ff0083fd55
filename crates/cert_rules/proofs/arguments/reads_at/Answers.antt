use Rattle.cert_rules.proofs.ArgumentSearch.{reads_at-is}
use Rattle.cert_rules.proofs.arguments.reads_at.Goals as goal

pub returns : goal.returns
returns c =
    reads_at-is c.args.net.now c.args.part.0 c.args.other.0 _ _ _ _ _ _ c.part_numbered-part.ensures.part c.item_at.ensures c.part_numbered.ensures.part c.parts_read-reads.ensures c.as_slice.ensures.items c.is_among.ensures
