use Rattle.std.proofs.Common.{rules, ◌≡◌, ◌∙◌, nat_le, length, map, Ok}
use Rattle.text_words.specs.Lines.{words_of}
use Rattle.text_words.specs.Numbers.{held}
use Rattle.net_text.specs.Forms.{GivesLine, list_front, numbers_written, values_given}
use Rattle.net_text.proofs.HeldLists.{table_given}
use Rattle.net_text.proofs.list_forms.table_line.Goals as goal

pub returns : goal.returns
returns c =
    let net = c.args.above.now.net in
    let words = words_of c.args.line.now in
    let behind = words_of c.behind_type.result.now in
    let numbers = c.as_slice.result.now in
    let front : list_front (nat_le 4 (length words)) net words ≡ Ok c.in-Ok.ty = search rules in
    let are : numbers ≡ map held (numbers_written behind) = c.as_slice.ensures.value ∙ c.in-Ok-numbers_written.ensures in
    let gives : GivesLine (values_given (length net.tables) c.in-Ok.ty numbers) c.values_given.result = search rules in
    table_given net words behind c.in-Ok.ty numbers c.values_given.result front c.behind_type.ensures are gives
