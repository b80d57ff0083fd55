use Rattle.cert_rules.proofs.GivenFacts.{kept_gives}
use Rattle.cert_rules.proofs.ruling.block_bounds.Goals as goal

pub returns-in-X1 : goal.returns-in-X1
returns-in-X1 c = λ known given.
    kept_gives c.args.net.now c.args.part.wire.0 c.args.block.now c.args.part.role c.args.given known _ _ c.in-X1.is c.requires.sized given c.keeps.ensures c.kept_bounds.ensures
