use Rattle.std.proofs.Common.{◌∙◌, ap₂, arith, ◌*ℤ◌}
use Rattle.std.specs.Int.{w128}
use Rattle.std.proofs.lemmas.Int.{ints, to_z-of_z}
use Rattle.part_rules.proofs.Sizes.{DivisorWords, divisor_high, divisor_words, product_some}
use Rattle.part_rules.proofs.WordSteps.{is_error}
use Rattle.part_rules.proofs.errors.divisors.Goals as goal

words : (c : goal.After-from) → DivisorWords c.args.y c.mignitude-least.result c.from.result
words c =
    divisor_words c.args.y c.mignitude-least.result c.from.result c.requires.small c.requires.nonzero c.mignitude-least.ensures.low c.mignitude-least.ensures.high c.mignitude-least.ensures.value (is_error c.args.y c.from.result c.requires.small c.from.ensures).value

pub product-requires-clause-second_low : goal.product-requires-clause-second_low
product-requires-clause-second_low c =
    let w = words c in
    let low = w.low in
    rw w.left (omega (arith, ints, low))

pub returns-clause-value : goal.returns-clause-value
returns-clause-value c =
    let w : DivisorWords c.args.y c.mignitude-least.result c.from.result = divisor_words c.args.y c.mignitude-least.result c.from.result c.requires.small c.requires.nonzero c.mignitude-least.ensures.low c.mignitude-least.ensures.high c.mignitude-least.ensures.value (is_error c.args.y c.from.result c.requires.small c.from.ensures).value in
    to_z-of_z w128 c.product.result (record { sfits = c.product.type_inv }) ∙ c.product.ensures.value ∙ ap₂ (λ s t. s *ℤ t) w.plain w.left

pub returns-clause-low : goal.returns-clause-low
returns-clause-low c =
    let w : DivisorWords c.args.y c.mignitude-least.result c.from.result = divisor_words c.args.y c.mignitude-least.result c.from.result c.requires.small c.requires.nonzero c.mignitude-least.ensures.low c.mignitude-least.ensures.high c.mignitude-least.ensures.value (is_error c.args.y c.from.result c.requires.small c.from.ensures).value in
    rw (returns-clause-value c) (product_some _ _ w.some w.low)

pub returns-clause-high : goal.returns-clause-high
returns-clause-high c =
    let w : DivisorWords c.args.y c.mignitude-least.result c.from.result = divisor_words c.args.y c.mignitude-least.result c.from.result c.requires.small c.requires.nonzero c.mignitude-least.ensures.low c.mignitude-least.ensures.high c.mignitude-least.ensures.value (is_error c.args.y c.from.result c.requires.small c.from.ensures).value in
    divisor_high c.args.y c.mignitude-least.result c.from.result c.product.result w c.mignitude-least.ensures.high c.mignitude-least.ensures.value c.requires.small.positive c.product.ensures.size (record { sfits = c.product.type_inv })
