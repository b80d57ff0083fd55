use Rattle.bfx_bits.proofs.TurnFacts.{rotated_bits}
use Rattle.bfx_bits.proofs.patterns.rotated.Goals as goal

pub returns-clause-bits : goal.returns-clause-bits
returns-clause-bits c =
    rotated_bits c.args.pattern c.args.width c.args.places c.shifted_left.result c.shifted_right.result c.ones.result c.requires.pattern c.requires.places c.requires.width c.shifted_left.ensures c.shifted_right.ensures c.ones.ensures
