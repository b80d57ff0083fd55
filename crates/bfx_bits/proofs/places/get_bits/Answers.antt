use Rattle.std.proofs.Common.{pos, ◌∙◌}
use Rattle.bfx_bits.proofs.PlaceFacts.{get_bits_is}
use Rattle.bfx_bits.proofs.places.get_bits.Goals as goal

pub returns : goal.returns
returns g c =
    c.word.ensures
    ∙ get_bits_is g.W.FxInt.TY (g.W.FxInt.wide c.args.w) (pos 0) c.args.start c.args.len c.from.result c.from-2.result c.pattern_of.result c.shifted_right-moved.result c.lowest.result c.pattern_of.ensures c.from.ensures c.from-2.ensures c.shifted_right-moved.ensures c.lowest.ensures.bits c.lowest.ensures.width
