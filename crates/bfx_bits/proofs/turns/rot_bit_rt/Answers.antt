use Rattle.std.proofs.Common.{pos, ap, ◌%◌, ◌-◌, ◌∙◌}
use Rattle.bfx_bits.proofs.TurnFacts.{right_turn_is}
use Rattle.bfx_bits.proofs.turns.rot_bit_rt.Goals as goal

pub returns : goal.returns
returns g c =
    c.word.ensures
    ∙ right_turn_is g.W.FxInt.TY (g.W.FxInt.wide c.args.w) (pos 0) (pos 0) c.args.n c.width-bits.result (c.width-bits.result - c.from.result % c.width-bits.result) c.pattern_of.result c.rotated.result c.pattern_of.ensures c.width-bits.ensures (ap (λ k. c.width-bits.result - k % c.width-bits.result) c.from.ensures) c.rotated.ensures.bits c.rotated.ensures.width
