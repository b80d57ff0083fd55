use Rattle.cert_rules.proofs.RuleFacts.{block_found}
use Rattle.cert_rules.proofs.ruling.part_bounds.Goals as goal

pub returns-in-Block : goal.returns-in-Block
returns-in-Block c =
    block_found c.args.net.now c.args.all.now c.args.part c.item_at.result c.in-Block.block c.given_to-given.result c.block_bounds.result c.requires.valid c.requires.there c.item_at.ensures c.in-Block.is c.requires.allowed c.given_to-given.ensures.given c.block_bounds.ensures
