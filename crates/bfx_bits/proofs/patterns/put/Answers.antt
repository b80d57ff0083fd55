use Rattle.std.proofs.Common.{◌∙◌}
use Rattle.bfx_bits.proofs.MaskFacts.{put_is}
use Rattle.bfx_bits.proofs.patterns.put.Goals as goal

pub returns : goal.returns
returns g c = c.word.ensures ∙ put_is g.W.FxInt.TY (g.W.FxInt.wide c.args.w) c.pattern_of.result c.args.pattern c.args.mask c.pattern_of.ensures c.requires.width
