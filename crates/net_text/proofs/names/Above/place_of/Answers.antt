use Rattle.std.proofs.Common.{rules, ◌≡◌, ◌<◌, ◌≤◌, length, sym, ◌∙◌, Some, None, arith}
use Rattle.net_text.specs.declared.keyword.Defined.TheVariants.{Wires}
use Rattle.net_text.specs.Names.{names_of}
use Rattle.net_text.proofs.NamePlaces.{place_found, place_later, place_missing}
use Rattle.net_text.proofs.names.Above.place_of.Goals as goal

pub returns-in_err-number : goal.returns-in_err-number
returns-in_err-number c =
    let none : c.number.result ≡ None = search rules in
    let missing = place_missing c.self.inside.draft.now.wires.items (names_of Wires c.self.inside.names.now) c.args.name.now c.self.invariant.0 (sym c.number.ensures.value ∙ none) in
    rw (← c.self.view_is, missing) (search rules)

pub returns-then-number-len : goal.returns-then-number-len
returns-then-number-len c =
    let some : c.number.result ≡ Some c.in_ok-number.number = search rules in
    let wires = c.self.inside.draft.now.wires in
    let below : c.in_ok-number.number < length wires.items = omega (arith, c.if-number-len.true, c.len.ensures, wires.ok) in
    rw (← c.self.view_is) (sym (place_found wires.items (names_of Wires c.self.inside.names.now) c.args.name.now c.in_ok-number.number c.self.invariant.0 (sym c.number.ensures.value ∙ some) below))

pub returns-else-number-len : goal.returns-else-number-len
returns-else-number-len c =
    let some : c.number.result ≡ Some c.in_ok-number.number = search rules in
    let wires = c.self.inside.draft.now.wires in
    let past : length wires.items ≤ c.in_ok-number.number = omega (arith, c.if-number-len.false, c.len.ensures, wires.ok) in
    rw (← c.self.view_is) (sym (place_later wires.items (names_of Wires c.self.inside.names.now) c.args.name.now c.in_ok-number.number c.self.invariant.0 (sym c.number.ensures.value ∙ some) past))
