use Rattle.std.proofs.Common.{rules, ◌≡◌, ◌==◌, length, Ok, to_z-of_z}
use Rattle.text_words.specs.Lines.{nth, words_of}
use Rattle.text_words.specs.Numbers.{held}
use Rattle.text_words.proofs.Held.{held_fits}
use Rattle.net_text.specs.Forms.{list_front, number_written, steps_given}
use Rattle.net_text.proofs.HeldLists.{axisstep_given}
use Rattle.net_text.proofs.list_forms.axisstep_line.Goals as goal

pub returns : goal.returns
returns c =
    let net = c.args.above.now.net in
    let words = words_of c.args.line.now in
    let ty = c.in_ok-ty.ty in
    let front : list_front (length words == 6) net words ≡ Ok ty = search rules in
    let gives : c.steps_given.result ≡ steps_given (length net.axes) ty (held (number_written (nth words 3))) (held (number_written (nth words 4))) (held (number_written (nth words 5))) = search (rules, to_z-of_z, held_fits) in
    axisstep_given net words ty c.steps_given.result front gives
