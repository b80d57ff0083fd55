use Rattle.std.proofs.Common.{pos, ◌∙◌}
use Rattle.bfx_bits.proofs.MaskFacts.{toggle_all_is}
use Rattle.bfx_bits.proofs.masks.toggle_bits.Goals as goal

pub returns : goal.returns
returns g c = c.word.ensures ∙ toggle_all_is g.W.FxInt.TY (g.W.FxInt.wide c.args.w) (pos 0) (pos 0) (pos 0) c.pattern_of.result c.width.result c.ones.result c.pattern_of.ensures c.ones.ensures c.width.ensures
