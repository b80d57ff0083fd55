use Rattle.std.proofs.Common.{rules}
use Rattle.fx_core.proofs.Words.{rounds_of_value}
use Rattle.fx_core.proofs.quotient.round.Goals as goal

pub returns-in-Zero-clause-relation : goal.returns-in-Zero-clause-relation
returns-in-Zero-clause-relation c =
    rounds_of_value _ _ c.args.n c.args.d _ c.requires c.in-Zero.is c.toward_zero.ensures c.ranges.n c.ranges.d (search rules)

pub returns-in-Floor-clause-relation : goal.returns-in-Floor-clause-relation
returns-in-Floor-clause-relation c =
    rounds_of_value _ _ c.args.n c.args.d _ c.requires c.in-Floor.is c.downward.ensures c.ranges.n c.ranges.d (search rules)

pub returns-in-Near-clause-relation : goal.returns-in-Near-clause-relation
returns-in-Near-clause-relation c =
    rounds_of_value _ _ c.args.n c.args.d _ c.requires c.in-Near.is c.to_nearest.ensures c.ranges.n c.ranges.d (search rules)
