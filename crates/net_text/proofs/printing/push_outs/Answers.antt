use Rattle.std.proofs.Common.{◌<◌, length, get_or, refl, ap, arith}
use Rattle.net_model.specs.declared.wires.WireNo.{WireNo}
use Rattle.net_text.specs.Printing.{out_words}
use Rattle.net_text.proofs.PrintedPieces.{line_behind}
use Rattle.net_text.proofs.printing.push_outs.Goals as goal

pub loop-out-preserved : goal.loop-out-preserved
loop-out-preserved c =
    let net = c.args.net.now in
    let wires = c.wires-wires.result.now in
    let outs = c.outs-out-items.result.now in
    let none : WireNo = record { 0 = 0 } in
    let below : c.loop-out.out-index < length outs = omega (arith, c.loop-out-test.true, c.loop-out.auto.out-index-end) in
    line_behind (out_words net.wires) (out_words wires) net.outs outs c.loop-out.out-index (get_or outs c.loop-out.out-index none) none c.args.text.now.items c.loop-out.text.items c.push_out.new.text.items c.outs-out-items.ensures.outs (ap out_words c.wires-wires.ensures.wires) below refl c.loop-out.invariant c.in_ok-push_out.ensures
