use Rattle.std.proofs.Common.{◌<◌, length, refl, arith}
use Rattle.net_text.specs.Printing.{axis_words}
use Rattle.net_text.proofs.PrintedPieces.{line_behind}
use Rattle.net_text.proofs.printing.push_axes.Goals as goal

pub loop-named-preserved : goal.loop-named-preserved
loop-named-preserved c =
    let net = c.args.net.now in
    let axes = c.axes-named-items.result.now in
    let below : c.loop-named.named-index < length axes = omega (arith, c.loop-named-test.true, c.loop-named.auto.named-index-end) in
    line_behind axis_words axis_words net.axes axes c.loop-named.named-index c.named-item.result c.named-item.result c.args.text.now.items c.loop-named.text.items c.push_axis.new.text.items c.axes-named-items.ensures.axes refl below c.named-item.is c.loop-named.invariant c.in_ok-push_axis.ensures
