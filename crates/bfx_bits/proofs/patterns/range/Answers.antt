use Rattle.std.proofs.Common.{◌+◌, ap₂}
use Rattle.bfx_bits.proofs.PlaceFacts.{range_bits, range_width}
use Rattle.bfx_bits.proofs.patterns.range.Goals as goal

pub returns-clause-bits : goal.returns-clause-bits
returns-clause-bits g c = range_bits g.W.FxInt.TY c.args.start c.args.len c.lowest.result c.lowest-2.result (c.from-start.result + c.from.result) c.from-start.result (ap₂ (λ x y. x + y) c.from-start.ensures c.from.ensures) c.from-start.ensures c.lowest.ensures.bits c.lowest-2.ensures.bits c.lowest-2.ensures.width

pub returns-clause-width : goal.returns-clause-width
returns-clause-width g c = range_width g.W.FxInt.TY c.lowest.result c.lowest-2.result c.lowest.ensures.width
