use Rattle.std.proofs.Common.{◌<◌, ◌++◌, length, FitsSigned, w64, arith}
use Rattle.std.proofs.lemmas.Int.{to_z-of_z}
use Rattle.text_words.specs.Printed.{behind_spaces}
use Rattle.net_text.specs.Printing.{number_words}
use Rattle.net_text.proofs.PrintedPieces.{next_number}
use Rattle.net_text.proofs.printing.push_points.Goals as goal

pub loop-i-preserved : goal.loop-i-preserved
loop-i-preserved c =
    let points = c.args.axis.now.points in
    let fits : FitsSigned w64 c.point.result = record { sfits = c.point.type_inv } in
    let below : c.loop-i.i < length points = omega (arith, c.loop-i-test.true, c.loop-i.auto.i-end, c.len-i-end.ensures.len) in
    next_number (c.args.text.now.items ++ behind_spaces (number_words points)) c.loop-i.text.items c.push_number.new.text.items points c.loop-i.i c.point.result below c.point.ensures c.loop-i.invariant (simp to_z-of_z at c.in_ok-push_number.ensures)
