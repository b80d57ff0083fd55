use Rattle.std.proofs.Common.{pos, ◌∙◌}
use Rattle.bfx_bits.proofs.PlaceFacts.{put_false}
use Rattle.bfx_bits.proofs.places.clr_bit.Goals as goal

pub returns : goal.returns
returns g c = c.put_bit.ensures ∙ put_false g.W.FxInt.TY (g.W.FxInt.wide c.args.w) (pos c.args.p) (pos 0) (pos 0) (pos 0)
