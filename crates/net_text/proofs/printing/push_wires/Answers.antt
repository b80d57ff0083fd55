use Rattle.std.proofs.Common.{◌<◌, length, refl, ◌∙◌, arith}
use Rattle.std.proofs.lemmas.List.{get_or_default}
use Rattle.net_model.specs.Wires.{no_wire}
use Rattle.net_text.specs.Printing.{wire_words}
use Rattle.net_text.proofs.PrintedPieces.{line_behind, wire_agrees}
use Rattle.net_text.proofs.printing.push_wires.Goals as goal

pub push_wire-requires : goal.push_wire-requires
push_wire-requires c =
    let wires = c.wires-wire-items.result.now in
    let below : c.loop-wire.wire-index < length wires = omega (arith, c.loop-wire-test.true, c.loop-wire.auto.wire-index-end) in
    let at = c.wire-item.is ∙ get_or_default wires c.loop-wire.wire-index c.wire-item.result no_wire below in
    wire_agrees c.args.net.now wires c.loop-wire.wire-index c.wire-item.result c.wires-wire-items.ensures.wires c.wires-wire-items.ensures.valid below at

pub loop-wire-preserved : goal.loop-wire-preserved
loop-wire-preserved c =
    let net = c.args.net.now in
    let wires = c.wires-wire-items.result.now in
    let below : c.loop-wire.wire-index < length wires = omega (arith, c.loop-wire-test.true, c.loop-wire.auto.wire-index-end) in
    line_behind (wire_words net) (wire_words net) net.wires wires c.loop-wire.wire-index c.wire-item.result c.wire-item.result c.args.text.now.items c.loop-wire.text.items c.push_wire.new.text.items c.wires-wire-items.ensures.wires refl below c.wire-item.is c.loop-wire.invariant c.in_ok-push_wire.ensures
