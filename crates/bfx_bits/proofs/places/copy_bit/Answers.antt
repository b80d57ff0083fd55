use Rattle.std.proofs.Common.{pos, ◌∙◌}
use Rattle.bfx_bits.proofs.PlaceFacts.{copy_is}
use Rattle.bfx_bits.proofs.places.copy_bit.Goals as goal

pub returns : goal.returns
returns g c =
    c.put_bit.ensures ∙ copy_is g.W.FxInt.TY (g.W.FxInt.wide c.args.w) (pos c.args.p) (g.W.FxInt.wide c.args.source) (pos c.args.q) (pos 0) (pos 0) (pos 0) c.get_bit.result c.get_bit.ensures
