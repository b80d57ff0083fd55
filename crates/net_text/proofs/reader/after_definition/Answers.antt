use Rattle.std.proofs.Common.{rules, ◌≡◌, Ok, ◌∙◌, ap}
use Rattle.text_words.specs.Lines.{nth, words_of}
use Rattle.text_words.specs.Names.{is_name}
use Rattle.net_model.specs.Drafts.{data_of}
use Rattle.net_text.specs.Forms.{defining_line}
use Rattle.net_text.proofs.GoodLines.{definition_good, content_name, content_place}
use Rattle.net_text.proofs.reader.after_definition.Goals as goal

pub with_content-requires-clause-name : goal.with_content-requires-clause-name
with_content-requires-clause-name c =
    let lines = c.args.names.now in
    let net = data_of c.args.draft in
    let words = words_of c.args.line.now in
    let made : defining_line lines net words ≡ Ok c.in-Ok.content = search rules in
    ap is_name c.word_at.ensures ∙ (content_name net (nth words 1) c.in-Ok.content (definition_good lines net words c.in-Ok.content made)).0

pub with_content-requires-clause-place : goal.with_content-requires-clause-place
with_content-requires-clause-place c =
    let lines = c.args.names.now in
    let net = data_of c.args.draft in
    let words = words_of c.args.line.now in
    let made : defining_line lines net words ≡ Ok c.in-Ok.content = search rules in
    content_place net (nth words 1) c.in-Ok.content (definition_good lines net words c.in-Ok.content made)
