use Rattle.net_text.specs.Printing.{text_of}
use Rattle.net_text.proofs.PrintedPieces.{text_joined}
use Rattle.net_text.proofs.printing.print_net.Goals as goal

pub returns : goal.returns
unfolding text_of
returns c =
    text_joined c.args.net.now c.in_ok-text.text.items c.push_axes.new.text.items c.push_tables.new.text.items c.push_wires.new.text.items c.push_outs.new.text.items c.push.new.self.items c.in_ok-text.ensures.items c.in_ok-push_axes.ensures c.in_ok-push_tables.ensures c.in_ok-push_wires.ensures c.in_ok-push_outs.ensures c.in_ok-push.ensures.items
