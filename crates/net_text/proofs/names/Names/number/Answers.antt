use Rattle.std.proofs.Common.{ap, ◌∙◌}
use Rattle.std.specs.Prelude.{position, bytes_eq}
use Rattle.net_text.proofs.NamePlaces.{position-map}
use Rattle.net_text.proofs.names.Names.number.Goals as goal

pub returns-clause-value : goal.returns-clause-value
returns-clause-value c =
    rw (← c.self.view_is) (c.get_index_of.ensures.index ∙ position-map (λ k. k.now) (bytes_eq c.args.name.now) c.self.inside.wires.keys ∙ ap (position (bytes_eq c.args.name.now)) c.self.invariant.0)
