use Rattle.std.proofs.Common.{pos, ◌∙◌}
use Rattle.bfx_bits.proofs.MaskFacts.{put_mask_is}
use Rattle.bfx_bits.proofs.masks.put_bits_mask.Goals as goal

pub returns : goal.returns
returns g c =
    c.put.ensures
    ∙ put_mask_is g.W.FxInt.TY (g.W.FxInt.wide c.args.w) (g.W.FxInt.wide c.args.pattern) (g.W.FxInt.wide c.args.mask) (pos 0) c.pattern_of.result c.pattern_of-2.result c.pattern_of.ensures c.pattern_of-2.ensures
