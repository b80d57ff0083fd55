use Rattle.std.proofs.Common.{rules, ◌≡◌, ◌∙◌, nat_le, length, map, Ok}
use Rattle.text_words.specs.Lines.{words_of}
use Rattle.text_words.specs.Numbers.{held}
use Rattle.net_text.specs.Forms.{GivesLine, list_front, numbers_written, points_given}
use Rattle.net_text.proofs.HeldLists.{axis_given}
use Rattle.net_text.proofs.list_forms.axis_line.Goals as goal

pub returns : goal.returns
returns c =
    let net = c.args.above.now.net in
    let words = words_of c.args.line.now in
    let behind = words_of c.behind_type.result.now in
    let numbers = c.as_slice.result.now in
    let front : list_front (nat_le 4 (length words)) net words ≡ Ok c.in-Ok.ty = search rules in
    let are : numbers ≡ map held (numbers_written behind) = c.as_slice.ensures.value ∙ c.in-Ok-numbers_written.ensures in
    let gives : GivesLine (points_given (length net.axes) c.in-Ok.ty numbers) c.points_given.result = search rules in
    axis_given net words behind c.in-Ok.ty numbers c.points_given.result front c.behind_type.ensures are gives
