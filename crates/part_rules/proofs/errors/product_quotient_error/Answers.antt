use Rattle.std.proofs.Common.{◌∙◌, ap₂, ◌^◌}
use Rattle.std.specs.Int.{w128}
use Rattle.std.proofs.lemmas.Int.{to_z-of_z}
use Rattle.part_rules.specs.Errors.{quotient_error, magnitude}
use Rattle.part_rules.proofs.Sizes.{Factors, magnitude_factors}
use Rattle.part_rules.proofs.errors.product_quotient_error.Goals as goal

pub quotient_error-requires-clause-top_high : goal.quotient_error-requires-clause-top_high
quotient_error-requires-clause-top_high c =
    let top : Factors (magnitude c.args.x) (magnitude c.args.y) c.product.result (2 ^ 64) = magnitude_factors c.magnitude.result c.magnitude-2.result _ _ c.product.result c.magnitude.ensures.low c.magnitude.ensures.high c.magnitude-2.ensures.low c.magnitude-2.ensures.high c.magnitude.ensures.value c.magnitude-2.ensures.value (record { sfits = c.product.type_inv }) c.product.ensures.value in
    top.high

pub returns : goal.returns
returns c =
    let top : Factors (magnitude c.args.x) (magnitude c.args.y) c.product.result (2 ^ 64) = magnitude_factors c.magnitude.result c.magnitude-2.result _ _ c.product.result c.magnitude.ensures.low c.magnitude.ensures.high c.magnitude-2.ensures.low c.magnitude-2.ensures.high c.magnitude.ensures.value c.magnitude-2.ensures.value (record { sfits = c.product.type_inv }) c.product.ensures.value in
    to_z-of_z w128 c.quotient_error.result (record { sfits = c.quotient_error.type_inv }) ∙ c.quotient_error.ensures ∙ ap₂ (λ s t. quotient_error 0 s t c.args.z) top.value (to_z-of_z w128 c.product_error.result (record { sfits = c.product_error.type_inv }) ∙ c.product_error.ensures.value)
