use Rattle.std.proofs.Common.{arith}
use Rattle.std.proofs.lemmas.Int.{ints}
use Rattle.ifx_rules.proofs.SlopeWords.{product_low, product_word}
use Rattle.ifx_rules.proofs.look_up_errors.product.Goals as goal

pub returns-clause-value : goal.returns-clause-value
returns-clause-value c = (product_word c.args.rise c.args.err c.requires.rise_low c.requires.rise_high c.requires.low c.requires.high).value

pub returns-clause-low : goal.returns-clause-low
returns-clause-low c =
    rw (product_word c.args.rise c.args.err c.requires.rise_low c.requires.rise_high c.requires.low c.requires.high).value (product_low c.args.rise c.args.err c.requires.rise_low c.requires.low)

pub returns-clause-high : goal.returns-clause-high
returns-clause-high c =
    let step = product_word c.args.rise c.args.err c.requires.rise_low c.requires.rise_high c.requires.low c.requires.high in
    let size = step.size in
    omega (arith, ints, size)
