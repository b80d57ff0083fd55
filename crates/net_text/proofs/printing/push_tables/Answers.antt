use Rattle.std.proofs.Common.{◌<◌, length, refl, arith}
use Rattle.net_text.specs.Printing.{table_words}
use Rattle.net_text.proofs.PrintedPieces.{line_behind}
use Rattle.net_text.proofs.printing.push_tables.Goals as goal

pub loop-named-preserved : goal.loop-named-preserved
loop-named-preserved c =
    let net = c.args.net.now in
    let tables = c.tables-named-items.result.now in
    let below : c.loop-named.named-index < length tables = omega (arith, c.loop-named-test.true, c.loop-named.auto.named-index-end) in
    line_behind table_words table_words net.tables tables c.loop-named.named-index c.named-item.result c.named-item.result c.args.text.now.items c.loop-named.text.items c.push_table.new.text.items c.tables-named-items.ensures.tables refl below c.named-item.is c.loop-named.invariant c.in_ok-push_table.ensures
