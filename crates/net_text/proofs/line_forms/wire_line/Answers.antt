use Rattle.std.proofs.Common.{sym}
use Rattle.text_words.specs.Lines.{words_of}
use Rattle.net_text.proofs.GoodLines.{given_ready}
use Rattle.net_text.proofs.line_forms.wire_line.Goals as goal

pub block_of-requires-clause-built : goal.block_of-requires-clause-built
block_of-requires-clause-built c =
    (given_ready c.args.above.now.lines c.args.above.now.net c.in_ok-routine.routine c.in_ok-routine.types c.signature_of-signature.result (words_of c.args.line.now) c.in_ok-kind.field-0 c.signature_of-signature.ensures c.in_ok-routine.ensures.built (sym c.in_ok-kind.ensures)).0

pub block_of-requires-clause-taken : goal.block_of-requires-clause-taken
block_of-requires-clause-taken c =
    (given_ready c.args.above.now.lines c.args.above.now.net c.in_ok-routine.routine c.in_ok-routine.types c.signature_of-signature.result (words_of c.args.line.now) c.in_ok-kind.field-0 c.signature_of-signature.ensures c.in_ok-routine.ensures.built (sym c.in_ok-kind.ensures)).1

pub block_of-requires-clause-numbers : goal.block_of-requires-clause-numbers
block_of-requires-clause-numbers c =
    (given_ready c.args.above.now.lines c.args.above.now.net c.in_ok-routine.routine c.in_ok-routine.types c.signature_of-signature.result (words_of c.args.line.now) c.in_ok-kind.field-0 c.signature_of-signature.ensures c.in_ok-routine.ensures.built (sym c.in_ok-kind.ensures)).2
