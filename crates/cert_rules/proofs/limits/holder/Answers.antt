use Rattle.cert_rules.proofs.GivenFacts.{kept_holder, kept_there}
use Rattle.cert_rules.proofs.limits.holder.Goals as goal

pub returns-in-Block : goal.returns-in-Block
returns-in-Block c = record {
  wire = kept_holder c.args.net.now c.args.part c.item_at.result c.in-Block.block _ c.in-X1.is c.item_at.ensures c.in-Block.is c.kept_wire.ensures;
  there = kept_there c.args.net.now c.args.part c.item_at.result c.in-Block.block _ c.requires.valid c.requires.there c.item_at.ensures c.in-Block.is c.kept_wire.ensures;
}
