use Rattle.ifx_rules.proofs.SlopeWords.{quotient_word}
use Rattle.ifx_rules.proofs.look_up_errors.quotient_above.Goals as goal

pub returns-clause-size : goal.returns-clause-size
returns-clause-size c = (quotient_word c.args.raised c.args.run c.ceil_div.result c.requires.low c.requires.high c.requires.run c.ranges.run c.ceil_div.ensures.value).size
