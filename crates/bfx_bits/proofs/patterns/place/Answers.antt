use Rattle.bfx_bits.proofs.PlaceFacts.{place_bits}
use Rattle.bfx_bits.proofs.patterns.place.Goals as goal

pub returns-then-from-width-clause-bits : goal.returns-then-from-width-clause-bits
returns-then-from-width-clause-bits g c = place_bits g.W.FxInt.TY c.args.p c.from.result c.width.result c.from.ensures c.width.ensures c.if-from-width.true
