use Rattle.std.proofs.Common.{pos, ◌∙◌}
use Rattle.bfx_bits.proofs.TurnFacts.{shift_right_is}
use Rattle.bfx_bits.proofs.turns.shift_bit_rt.Goals as goal

pub returns : goal.returns
returns g c =
    c.word.ensures ∙ shift_right_is g.W.FxInt.TY (g.W.FxInt.wide c.args.w) (pos 0) (pos 0) c.args.n c.from.result c.pattern_of.result c.shifted_right.result c.pattern_of.ensures c.from.ensures c.shifted_right.ensures
