use Rattle.efx_rules.proofs.WordSteps.{rounded_words}
use Rattle.efx_rules.proofs.filter_errors.rounded_error.Goals as goal

pub overflow_add-result : goal.overflow_add-result
overflow_add-result c =
    (rounded_words c.args.err c.ceil_div.result c.requires.low c.requires.high c.ceil_div.ensures.value).fits

pub returns : goal.returns
returns c =
    (rounded_words c.args.err c.ceil_div.result c.requires.low c.requires.high c.ceil_div.ensures.value).value
