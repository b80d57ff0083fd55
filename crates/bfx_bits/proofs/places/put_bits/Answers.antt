use Rattle.std.proofs.Common.{◌∙◌}
use Rattle.bfx_bits.proofs.PlaceFacts.{put_bits_is}
use Rattle.bfx_bits.proofs.places.put_bits.Goals as goal

pub returns : goal.returns
returns g c =
    c.put.ensures
    ∙ put_bits_is g.W.FxInt.TY (g.W.FxInt.wide c.args.w) (g.W.FxInt.wide c.args.pattern) c.args.start c.args.len c.from.result c.pattern_of.result c.shifted_left-moved.result c.range.result c.pattern_of.ensures c.from.ensures c.shifted_left-moved.ensures c.range.ensures.bits
