use Rattle.net_model.specs.BlockForms.{signature_in}
use Rattle.net_text.specs.Printing.{argument_words, list_words, number_words}
use Rattle.net_text.proofs.PrintedPieces.{joined_thrice}
use Rattle.net_text.proofs.printing.push_given.Goals as goal

pub returns : goal.returns
returns c =
    let net = c.args.net.now in
    let form = c.args.form.now in
    joined_thrice c.push_numbers.result c.args.text.now.items c.push_arguments.new.text.items c.push_lists.new.text.items c.push_numbers.new.text.items (argument_words net.wires form.wires) (list_words net (signature_in form).lists form.lists) (number_words form.numbers)
    (rw (c.wires.ensures.wires, c.as_slice.ensures.items) at (c.in_ok-push_arguments.ensures)) (rw (c.as_slice-2.ensures.items, c.as_slice-3.ensures.items, c.signature_of-signature.ensures) at (c.in_ok-push_lists.ensures)) (rw c.as_slice-4.ensures.items at (c.push_numbers.ensures))
