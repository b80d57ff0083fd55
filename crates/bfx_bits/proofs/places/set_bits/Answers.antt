use Rattle.std.proofs.Common.{◌∙◌}
use Rattle.bfx_bits.proofs.PlaceFacts.{set_bits_is}
use Rattle.bfx_bits.proofs.places.set_bits.Goals as goal

pub returns : goal.returns
returns g c =
    c.put.ensures ∙ set_bits_is g.W.FxInt.TY (g.W.FxInt.wide c.args.w) c.args.start c.args.len c.args.s c.filled.result c.range.result c.filled.ensures c.range.ensures.bits
