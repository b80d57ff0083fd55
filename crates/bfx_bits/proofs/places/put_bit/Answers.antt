use Rattle.std.proofs.Common.{pos, ◌∙◌}
use Rattle.bfx_bits.proofs.PlaceFacts.{put_bit_is}
use Rattle.bfx_bits.proofs.places.put_bit.Goals as goal

pub returns : goal.returns
returns g c =
    c.put.ensures ∙ put_bit_is g.W.FxInt.TY (g.W.FxInt.wide c.args.w) (pos 0) c.args.p c.args.s c.filled.result c.place.result c.filled.ensures c.place.ensures.bits
