use Rattle.std.proofs.Common.{◌∙◌, refl, pos}
use Rattle.fx_core.specs.Rounding.{least_quotient_above}
use Rattle.part_rules.proofs.WordSteps.{word, error_factor, is_error, magnitude_factor, word_low}
use Rattle.part_rules.proofs.Sizes.{ProductWords, product_words, pair_fits, sum_fits, sum_word, sum_low, sum_high}
use Rattle.part_rules.proofs.errors.product_error.Goals as goal

pub product-first-requires-clause-first_low : goal.product-first-requires-clause-first_low
product-first-requires-clause-first_low c =
    (magnitude_factor c.magnitude.result c.magnitude.ensures.low c.magnitude.ensures.high).low

pub product-first-requires-clause-first_high : goal.product-first-requires-clause-first_high
product-first-requires-clause-first_high c =
    (magnitude_factor c.magnitude.result c.magnitude.ensures.low c.magnitude.ensures.high).wide

pub product-first-requires-clause-second_low : goal.product-first-requires-clause-second_low
product-first-requires-clause-second_low c =
    (error_factor c.args.y c.from-y_err.result c.requires.second c.from-y_err.ensures).low

pub product-first-requires-clause-second_high : goal.product-first-requires-clause-second_high
product-first-requires-clause-second_high c =
    (error_factor c.args.y c.from-y_err.result c.requires.second c.from-y_err.ensures).narrow

pub product-second-requires-clause-first_low : goal.product-second-requires-clause-first_low
product-second-requires-clause-first_low c =
    (magnitude_factor c.magnitude-2.result c.magnitude-2.ensures.low c.magnitude-2.ensures.high).low

pub product-second-requires-clause-first_high : goal.product-second-requires-clause-first_high
product-second-requires-clause-first_high c =
    (magnitude_factor c.magnitude-2.result c.magnitude-2.ensures.low c.magnitude-2.ensures.high).wide

pub product-second-requires-clause-second_low : goal.product-second-requires-clause-second_low
product-second-requires-clause-second_low c =
    (error_factor c.args.x c.from-x_err.result c.requires.first c.from-x_err.ensures).low

pub product-second-requires-clause-second_high : goal.product-second-requires-clause-second_high
product-second-requires-clause-second_high c =
    (error_factor c.args.x c.from-x_err.result c.requires.first c.from-x_err.ensures).narrow

pub product-both-requires-clause-first_low : goal.product-both-requires-clause-first_low
product-both-requires-clause-first_low c =
    (error_factor c.args.x c.from-x_err.result c.requires.first c.from-x_err.ensures).low

pub product-both-requires-clause-first_high : goal.product-both-requires-clause-first_high
product-both-requires-clause-first_high c =
    (error_factor c.args.x c.from-x_err.result c.requires.first c.from-x_err.ensures).wide

pub product-both-requires-clause-second_low : goal.product-both-requires-clause-second_low
product-both-requires-clause-second_low c =
    (error_factor c.args.y c.from-y_err.result c.requires.second c.from-y_err.ensures).low

pub product-both-requires-clause-second_high : goal.product-both-requires-clause-second_high
product-both-requires-clause-second_high c =
    (error_factor c.args.y c.from-y_err.result c.requires.second c.from-y_err.ensures).narrow

pub ceil_div-requires-clause-dividend : goal.ceil_div-requires-clause-dividend
ceil_div-requires-clause-dividend c =
    word_low c.product-both.result (record { sfits = c.product-both.type_inv }) c.product-both.ensures.low

pub overflow_add-result : goal.overflow_add-result
overflow_add-result c =
    let w : ProductWords c.args.x c.args.y c.product-first.result c.product-second.result (least_quotient_above (word c.product-both.result) (pos 65536)) = product_words c.args.x c.args.y c.magnitude.result c.magnitude-2.result c.from-x_err.result c.from-y_err.result c.product-first.result c.product-second.result c.product-both.result (least_quotient_above (word c.product-both.result) (pos 65536)) c.requires.first c.requires.second c.magnitude.ensures.low c.magnitude.ensures.high c.magnitude-2.ensures.low c.magnitude-2.ensures.high c.magnitude.ensures.value c.magnitude-2.ensures.value (is_error c.args.x c.from-x_err.result c.requires.first c.from-x_err.ensures).value (is_error c.args.y c.from-y_err.result c.requires.second c.from-y_err.ensures).value c.product-first.ensures.value c.product-second.ensures.value c.product-both.ensures.value refl in
    pair_fits _ _ _ w

pub overflow_add-result-2 : goal.overflow_add-result-2
overflow_add-result-2 c =
    let w : ProductWords c.args.x c.args.y c.product-first.result c.product-second.result c.ceil_div.result = product_words c.args.x c.args.y c.magnitude.result c.magnitude-2.result c.from-x_err.result c.from-y_err.result c.product-first.result c.product-second.result c.product-both.result c.ceil_div.result c.requires.first c.requires.second c.magnitude.ensures.low c.magnitude.ensures.high c.magnitude-2.ensures.low c.magnitude-2.ensures.high c.magnitude.ensures.value c.magnitude-2.ensures.value (is_error c.args.x c.from-x_err.result c.requires.first c.from-x_err.ensures).value (is_error c.args.y c.from-y_err.result c.requires.second c.from-y_err.ensures).value c.product-first.ensures.value c.product-second.ensures.value c.product-both.ensures.value c.ceil_div.ensures.value in
    sum_fits _ _ _ w

pub returns-clause-value : goal.returns-clause-value
returns-clause-value c =
    let w : ProductWords c.args.x c.args.y c.product-first.result c.product-second.result c.ceil_div.result = product_words c.args.x c.args.y c.magnitude.result c.magnitude-2.result c.from-x_err.result c.from-y_err.result c.product-first.result c.product-second.result c.product-both.result c.ceil_div.result c.requires.first c.requires.second c.magnitude.ensures.low c.magnitude.ensures.high c.magnitude-2.ensures.low c.magnitude-2.ensures.high c.magnitude.ensures.value c.magnitude-2.ensures.value (is_error c.args.x c.from-x_err.result c.requires.first c.from-x_err.ensures).value (is_error c.args.y c.from-y_err.result c.requires.second c.from-y_err.ensures).value c.product-first.ensures.value c.product-second.ensures.value c.product-both.ensures.value c.ceil_div.ensures.value in
    sum_word _ _ _ w ∙ w.value

pub returns-clause-low : goal.returns-clause-low
returns-clause-low c =
    let w : ProductWords c.args.x c.args.y c.product-first.result c.product-second.result c.ceil_div.result = product_words c.args.x c.args.y c.magnitude.result c.magnitude-2.result c.from-x_err.result c.from-y_err.result c.product-first.result c.product-second.result c.product-both.result c.ceil_div.result c.requires.first c.requires.second c.magnitude.ensures.low c.magnitude.ensures.high c.magnitude-2.ensures.low c.magnitude-2.ensures.high c.magnitude.ensures.value c.magnitude-2.ensures.value (is_error c.args.x c.from-x_err.result c.requires.first c.from-x_err.ensures).value (is_error c.args.y c.from-y_err.result c.requires.second c.from-y_err.ensures).value c.product-first.ensures.value c.product-second.ensures.value c.product-both.ensures.value c.ceil_div.ensures.value in
    rw (sum_word _ _ _ w) (sum_low w)

pub returns-clause-high : goal.returns-clause-high
returns-clause-high c =
    let w : ProductWords c.args.x c.args.y c.product-first.result c.product-second.result c.ceil_div.result = product_words c.args.x c.args.y c.magnitude.result c.magnitude-2.result c.from-x_err.result c.from-y_err.result c.product-first.result c.product-second.result c.product-both.result c.ceil_div.result c.requires.first c.requires.second c.magnitude.ensures.low c.magnitude.ensures.high c.magnitude-2.ensures.low c.magnitude-2.ensures.high c.magnitude.ensures.value c.magnitude-2.ensures.value (is_error c.args.x c.from-x_err.result c.requires.first c.from-x_err.ensures).value (is_error c.args.y c.from-y_err.result c.requires.second c.from-y_err.ensures).value c.product-first.ensures.value c.product-second.ensures.value c.product-both.ensures.value c.ceil_div.ensures.value in
    rw (sum_word _ _ _ w) (sum_high w)
