use Rattle.std.proofs.Common.{◌∙◌, ap₂, ◌^◌}
use Rattle.std.specs.Int.{w128}
use Rattle.std.proofs.lemmas.Int.{to_z-of_z}
use Rattle.fx_core.specs.Rounding.{power}
use Rattle.part_rules.specs.Errors.{quotient_error, magnitude}
use Rattle.part_rules.proofs.Sizes.{Factors, error_factors, power_high, power_low, magnitude_factors}
use Rattle.part_rules.proofs.WordSteps.{error_factor, is_error, magnitude_factor, word_low}
use Rattle.part_rules.proofs.errors.shifted_quotient_error.Goals as goal

pub product-requires-clause-first_low : goal.product-requires-clause-first_low
product-requires-clause-first_low c =
    (magnitude_factor c.magnitude.result c.magnitude.ensures.low c.magnitude.ensures.high).low

pub product-requires-clause-first_high : goal.product-requires-clause-first_high
product-requires-clause-first_high c =
    (magnitude_factor c.magnitude.result c.magnitude.ensures.low c.magnitude.ensures.high).wide

pub product-requires-clause-second_low : goal.product-requires-clause-second_low
product-requires-clause-second_low c =
    (magnitude_factor c.power_of_two-factor.result (power_low c.args.shift _ c.power_of_two-factor.ensures.value) (power_high c.args.shift _ c.power_of_two-factor.ensures.value c.power_of_two-factor.ensures.size)).low

pub product-requires-clause-second_high : goal.product-requires-clause-second_high
product-requires-clause-second_high c =
    (magnitude_factor c.power_of_two-factor.result (power_low c.args.shift _ c.power_of_two-factor.ensures.value) (power_high c.args.shift _ c.power_of_two-factor.ensures.value c.power_of_two-factor.ensures.size)).narrow

pub product-requires-2-clause-first_low : goal.product-requires-2-clause-first_low
product-requires-2-clause-first_low c =
    (error_factor c.args.x c.from.result c.requires.dividend c.from.ensures).low

pub product-requires-2-clause-first_high : goal.product-requires-2-clause-first_high
product-requires-2-clause-first_high c =
    (error_factor c.args.x c.from.result c.requires.dividend c.from.ensures).wide

pub product-requires-2-clause-second_low : goal.product-requires-2-clause-second_low
product-requires-2-clause-second_low c =
    (magnitude_factor c.power_of_two-factor.result (power_low c.args.shift _ c.power_of_two-factor.ensures.value) (power_high c.args.shift _ c.power_of_two-factor.ensures.value c.power_of_two-factor.ensures.size)).low

pub product-requires-2-clause-second_high : goal.product-requires-2-clause-second_high
product-requires-2-clause-second_high c =
    (magnitude_factor c.power_of_two-factor.result (power_low c.args.shift _ c.power_of_two-factor.ensures.value) (power_high c.args.shift _ c.power_of_two-factor.ensures.value c.power_of_two-factor.ensures.size)).narrow

top : (c : goal.After-product-2) → Factors (magnitude c.args.x) (power c.args.shift) c.product.result (2 ^ 64)
top c =
    magnitude_factors c.magnitude.result c.power_of_two-factor.result _ _ c.product.result c.magnitude.ensures.low c.magnitude.ensures.high (power_low c.args.shift _ c.power_of_two-factor.ensures.value) (power_high c.args.shift _ c.power_of_two-factor.ensures.value c.power_of_two-factor.ensures.size) c.magnitude.ensures.value c.power_of_two-factor.ensures.value (record { sfits = c.product.type_inv }) c.product.ensures.value

error : (c : goal.After-product-2) → Factors c.args.x.err (power c.args.shift) c.product-2.result (2 ^ 74)
error c =
    error_factors c.from.result c.power_of_two-factor.result _ _ c.product-2.result c.requires.dividend.positive c.requires.dividend.near (power_low c.args.shift _ c.power_of_two-factor.ensures.value) (power_high c.args.shift _ c.power_of_two-factor.ensures.value c.power_of_two-factor.ensures.size) (is_error c.args.x c.from.result c.requires.dividend c.from.ensures).value c.power_of_two-factor.ensures.value (record { sfits = c.product-2.type_inv }) c.product-2.ensures.value

pub quotient_error-requires-clause-top_high : goal.quotient_error-requires-clause-top_high
quotient_error-requires-clause-top_high c = (top c).high

pub quotient_error-requires-clause-high : goal.quotient_error-requires-clause-high
quotient_error-requires-clause-high c = (error c).high

pub quotient_error-requires-clause-top_low : goal.quotient_error-requires-clause-top_low
quotient_error-requires-clause-top_low c =
    word_low c.product.result (record { sfits = c.product.type_inv }) c.product.ensures.low

pub quotient_error-requires-clause-low : goal.quotient_error-requires-clause-low
quotient_error-requires-clause-low c =
    word_low c.product-2.result (record { sfits = c.product-2.type_inv }) c.product-2.ensures.low

pub returns : goal.returns
returns c =
    let t : Factors (magnitude c.args.x) (power c.args.shift) c.product.result (2 ^ 64) = magnitude_factors c.magnitude.result c.power_of_two-factor.result _ _ c.product.result c.magnitude.ensures.low c.magnitude.ensures.high (power_low c.args.shift _ c.power_of_two-factor.ensures.value) (power_high c.args.shift _ c.power_of_two-factor.ensures.value c.power_of_two-factor.ensures.size) c.magnitude.ensures.value c.power_of_two-factor.ensures.value (record { sfits = c.product.type_inv }) c.product.ensures.value in
    let u : Factors c.args.x.err (power c.args.shift) c.product-2.result (2 ^ 74) = error_factors c.from.result c.power_of_two-factor.result _ _ c.product-2.result c.requires.dividend.positive c.requires.dividend.near (power_low c.args.shift _ c.power_of_two-factor.ensures.value) (power_high c.args.shift _ c.power_of_two-factor.ensures.value c.power_of_two-factor.ensures.size) (is_error c.args.x c.from.result c.requires.dividend c.from.ensures).value c.power_of_two-factor.ensures.value (record { sfits = c.product-2.type_inv }) c.product-2.ensures.value in
    to_z-of_z w128 c.quotient_error.result (record { sfits = c.quotient_error.type_inv }) ∙ c.quotient_error.ensures ∙ ap₂ (λ s t. quotient_error 0 s t c.args.y) t.value u.value
