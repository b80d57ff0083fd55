use Rattle.std.proofs.Common.{◌∙◌, sym}
use Rattle.net_eval.proofs.ItemSteps.{can_start}
use Rattle.net_eval.proofs.states.start_of.Goals as goal

pub block_start-requires : goal.block_start-requires
block_start-requires c = can_start c.args.net.now c.args.wire.0 c.in-Block.block c.requires.valid c.requires.there (sym c.item_at.ensures ∙ c.in-Block.is)
