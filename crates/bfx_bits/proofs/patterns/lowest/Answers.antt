use Rattle.bfx_bits.proofs.PlaceFacts.{lowest_bits, lowest_width}
use Rattle.std.proofs.Common.{ap, ◌∙◌}
use Rattle.std.specs.Prelude.{min}
use Rattle.fx_core.specs.Types.{width_of}
use Rattle.bfx_bits.proofs.patterns.lowest.Goals as goal

pub returns-clause-bits : goal.returns-clause-bits
returns-clause-bits g c = lowest_bits (width_of g.W.FxInt.TY) c.args.count c.min.result c.ones.result (c.min.ensures ∙ ap (min c.args.count) c.width.ensures) c.ones.ensures

pub returns-clause-width : goal.returns-clause-width
returns-clause-width g c = lowest_width (width_of g.W.FxInt.TY) c.args.count c.min.result c.ones.result (c.min.ensures ∙ ap (min c.args.count) c.width.ensures) c.ones.ensures
