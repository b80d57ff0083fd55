use Rattle.std.proofs.Common.{◌||◌, Bool, ◌∙◌, ap, sym}
use Rattle.std.specs.Prelude.{bytes_eq}
use Rattle.std.specs.List.{list_any}
use Rattle.text_words.specs.Lines.{lines_of}
use Rattle.net_text.proofs.NamePlaces.{names_have}
use Rattle.net_text.proofs.names.Names.has.Goals as goal

pub returns-then-contains : goal.returns-then-contains
returns-then-contains c =
    let both = names_have (λ k. k.now) c.self.inside.wires.keys c.self.inside.lists.keys (lines_of c.self.inside.text.now) c.args.name.now c.self.invariant.0 c.self.invariant.2 in
    let lists : Bool = list_any (λ key. bytes_eq c.args.name.now key.now) c.self.inside.lists.keys in
    rw (← c.self.view_is) (c.if-contains.true ∙ ap (λ a. a || lists) (sym c.if-contains.true ∙ c.contains.ensures) ∙ both)

pub returns-else-contains : goal.returns-else-contains
returns-else-contains c =
    let both = names_have (λ k. k.now) c.self.inside.wires.keys c.self.inside.lists.keys (lines_of c.self.inside.text.now) c.args.name.now c.self.invariant.0 c.self.invariant.2 in
    let lists : Bool = list_any (λ key. bytes_eq c.args.name.now key.now) c.self.inside.lists.keys in
    rw (← c.self.view_is) (c.contains-else-contains.ensures ∙ ap (λ a. a || lists) (sym c.if-contains.false ∙ c.contains.ensures) ∙ both)
