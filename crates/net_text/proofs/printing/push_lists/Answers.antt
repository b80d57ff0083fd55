use Rattle.std.proofs.Common.{◌++◌, sym, ap, ◌∙◌, append-nil, arith}
use Rattle.text_words.specs.Printed.{behind_spaces}
use Rattle.net_text.proofs.PrintedPieces.{no_list_left}
use Rattle.net_text.proofs.printing.push_lists.Goals as goal

pub returns : goal.returns
returns c =
    let net = c.args.net.now in
    let sorts = c.args.sorts.now in
    let lists = c.args.lists.now in
    let none = no_list_left net sorts lists c.loop-i.i (omega (arith, c.loop-i-test.false, c.min-i-end.ensures, c.loop-i.auto.i-end)) in
    sym (append-nil c.loop-i.text.items) ∙ ap (λ ws. c.loop-i.text.items ++ behind_spaces ws) (sym none) ∙ c.loop-i.invariant
