use Rattle.std.proofs.Common.{pos}
use Rattle.bfx_bits.proofs.PlaceFacts.{get_is}
use Rattle.bfx_bits.proofs.places.get_bit.Goals as goal

pub returns : goal.returns
returns g c = get_is g.W.FxInt.TY (g.W.FxInt.wide c.args.w) (pos 0) (pos 0) c.args.p c.from.result c.pattern_of.result c.shifted_right.result c.pattern_of.ensures c.from.ensures c.shifted_right.ensures
