use Rattle.std.proofs.Common.{◌∙◌, ap, pos, ◌*ℤ◌}
use Rattle.part_rules.proofs.Sizes.{DividendWords, dividend_words, dividend_fits, dividend_times_fits, dividend_times_word, dividend_low, dividend_high}
use Rattle.part_rules.proofs.WordSteps.{error_factor, is_error, magnitude_factor}
use Rattle.part_rules.proofs.errors.moves.Goals as goal

words : (c : goal.After-product-2) → DividendWords c.args.top c.args.err c.args.y c.product.result c.product-2.result
words c =
    dividend_words c.args.top c.args.err c.args.y c.mignitude-least.result c.from-y_err.result c.product.result c.product-2.result c.requires.divisor c.requires.top_low c.requires.top_high c.requires.low c.requires.high c.mignitude-least.ensures.low c.mignitude-least.ensures.high c.mignitude-least.ensures.value (is_error c.args.y c.from-y_err.result c.requires.divisor c.from-y_err.ensures).value c.product.ensures.value c.product-2.ensures.value

pub product-requires-clause-second_low : goal.product-requires-clause-second_low
product-requires-clause-second_low c =
    (error_factor c.args.y c.from-y_err.result c.requires.divisor c.from-y_err.ensures).low

pub product-requires-clause-second_high : goal.product-requires-clause-second_high
product-requires-clause-second_high c =
    (error_factor c.args.y c.from-y_err.result c.requires.divisor c.from-y_err.ensures).narrow

pub product-requires-2-clause-second_low : goal.product-requires-2-clause-second_low
product-requires-2-clause-second_low c =
    (magnitude_factor c.mignitude-least.result c.mignitude-least.ensures.low c.mignitude-least.ensures.high).low

pub product-requires-2-clause-second_high : goal.product-requires-2-clause-second_high
product-requires-2-clause-second_high c =
    (magnitude_factor c.mignitude-least.result c.mignitude-least.ensures.low c.mignitude-least.ensures.high).narrow

pub overflow_add-result : goal.overflow_add-result
overflow_add-result c = dividend_fits _ _ (words c)

pub overflow_mul-result : goal.overflow_mul-result
overflow_mul-result c = dividend_times_fits _ _ (words c)

pub returns-clause-value : goal.returns-clause-value
returns-clause-value c = dividend_times_word _ _ (words c) ∙ ap (λ t. pos 65536 *ℤ t) (words c).value

pub returns-clause-low : goal.returns-clause-low
returns-clause-low c = rw (dividend_times_word _ _ (words c)) (dividend_low (words c))

pub returns-clause-high : goal.returns-clause-high
returns-clause-high c = rw (dividend_times_word _ _ (words c)) (dividend_high (words c))
