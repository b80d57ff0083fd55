use Rattle.std.proofs.Common.{pos, ◌∙◌}
use Rattle.bfx_bits.proofs.PlaceFacts.{put_true}
use Rattle.bfx_bits.proofs.places.set_bit.Goals as goal

pub returns : goal.returns
returns g c = c.put_bit.ensures ∙ put_true g.W.FxInt.TY (g.W.FxInt.wide c.args.w) (pos c.args.p) (pos 0) (pos 0) (pos 0)
