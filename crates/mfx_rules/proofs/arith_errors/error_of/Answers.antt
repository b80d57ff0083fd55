use Rattle.std.proofs.Common.{◌∙◌, ap, ap₂, inl, inr}
use Rattle.std.specs.Int.{int_max, w128}
use Rattle.std.proofs.lemmas.Int.{to_z-of_z}
use Rattle.part_rules.specs.Errors.{quotient_error, shifted_error}
use Rattle.part_rules.proofs.WordSteps.{error_factor, is_error, magnitude_factor, word_high, word_low}
use Rattle.mfx_rules.proofs.arith_errors.error_of.Goals as goal

pub quotient_error-requires-clause-top_low : goal.quotient_error-requires-clause-top_low
quotient_error-requires-clause-top_low c =
    (magnitude_factor c.magnitude.result c.magnitude.ensures.low c.magnitude.ensures.high).low

pub quotient_error-requires-clause-top_high : goal.quotient_error-requires-clause-top_high
quotient_error-requires-clause-top_high c =
    (magnitude_factor c.magnitude.result c.magnitude.ensures.low c.magnitude.ensures.high).top

pub quotient_error-requires-clause-low : goal.quotient_error-requires-clause-low
quotient_error-requires-clause-low c =
    (error_factor c.args.x c.from-in-Div.result c.requires.first c.from-in-Div.ensures).low

pub quotient_error-requires-clause-high : goal.quotient_error-requires-clause-high
quotient_error-requires-clause-high c =
    (error_factor c.args.x c.from-in-Div.result c.requires.first c.from-in-Div.ensures).high

pub shifted_error-requires-clause-low : goal.shifted_error-requires-clause-low
shifted_error-requires-clause-low c =
    word_low c.product_error-in-MulShRight.result (record { sfits = c.product_error-in-MulShRight.type_inv }) c.product_error-in-MulShRight.ensures.low

pub shifted_error-requires-clause-high : goal.shifted_error-requires-clause-high
shifted_error-requires-clause-high c =
    word_high c.product_error-in-MulShRight.result (record { sfits = c.product_error-in-MulShRight.type_inv }) c.product_error-in-MulShRight.ensures.high

pub returns-in-Abs : goal.returns-in-Abs
returns-in-Abs c =
    rw c.in-Abs.is (is_error c.args.x c.from.result c.requires.first c.from.ensures).plain

pub returns-in-Mul : goal.returns-in-Mul
returns-in-Mul c =
    rw c.in-Mul.is (to_z-of_z w128 c.product_error.result (record { sfits = c.product_error.type_inv }) ∙ c.product_error.ensures.value)

pub returns-in-Div : goal.returns-in-Div
returns-in-Div c =
    rw c.in-Div.is (to_z-of_z w128 c.quotient_error.result (record { sfits = c.quotient_error.type_inv }) ∙ c.quotient_error.ensures ∙ ap₂ (λ s t. quotient_error 0 s t c.args.y) (to_z-of_z w128 c.magnitude.result (record { sfits = c.magnitude.type_inv }) ∙ c.magnitude.ensures.value) (is_error c.args.x c.from-in-Div.result c.requires.first c.from-in-Div.ensures).plain)

pub returns-in-MulDiv : goal.returns-in-MulDiv
returns-in-MulDiv c =
    rw c.in-MulDiv.is (to_z-of_z w128 c.product_quotient_error.result (record { sfits = c.product_quotient_error.type_inv }) ∙ c.product_quotient_error.ensures)

pub returns-in-MulShRight : goal.returns-in-MulShRight
returns-in-MulShRight c =
    rw c.in-MulShRight.is (to_z-of_z w128 c.shifted_error.result (record { sfits = c.shifted_error.type_inv }) ∙ c.shifted_error.ensures ∙ ap (shifted_error c.args.shift) (to_z-of_z w128 c.product_error-in-MulShRight.result (record { sfits = c.product_error-in-MulShRight.type_inv }) ∙ c.product_error-in-MulShRight.ensures.value))

pub returns-in-DivShLeft : goal.returns-in-DivShLeft
returns-in-DivShLeft c =
    rw c.in-DivShLeft.is (to_z-of_z w128 c.shifted_quotient_error.result (record { sfits = c.shifted_quotient_error.type_inv }) ∙ c.shifted_quotient_error.ensures)

pub returns-in-Limit : goal.returns-in-Limit
returns-in-Limit c =
    rw c.in-Limit.is (to_z-of_z w128 c.greater.result (record { sfits = c.greater.type_inv }) ∙ c.greater.ensures ∙ ap₂ int_max (to_z-of_z w128 c.greater_error.result (record { sfits = c.greater_error.type_inv }) ∙ c.greater_error.ensures) (is_error c.args.z c.from-in-Limit.result c.requires.third c.from-in-Limit.ensures).plain)

pub returns-in-RateLimiter : goal.returns-in-RateLimiter
returns-in-RateLimiter c =
    rw c.in-RateLimiter.is (to_z-of_z w128 c.greater-in-RateLimiter.result (record { sfits = c.greater-in-RateLimiter.type_inv }) ∙ c.greater-in-RateLimiter.ensures ∙ ap₂ int_max (is_error c.args.x c.from-in-RateLimiter.result c.requires.first c.from-in-RateLimiter.ensures).plain (to_z-of_z w128 c.sum_error-in-RateLimiter.result (record { sfits = c.sum_error-in-RateLimiter.type_inv }) ∙ c.sum_error-in-RateLimiter.ensures))

pub returns-in-Add : goal.returns-in-Add
returns-in-Add c =
    let sum = to_z-of_z w128 c.sum_error.result (record { sfits = c.sum_error.type_inv }) ∙ c.sum_error.ensures in
    elim c.in-Add.is [
      | inl is ↦ rw is sum
      | inr other ↦ elim other [
        | inl is ↦ rw is sum
        | inr is ↦ rw is sum
      ]
    ]

pub returns-in-Min : goal.returns-in-Min
returns-in-Min c =
    let error = to_z-of_z w128 c.greater_error-in-Min.result (record { sfits = c.greater_error-in-Min.type_inv }) ∙ c.greater_error-in-Min.ensures in
    elim c.in-Min.is [
      | inl is ↦ rw is error
      | inr is ↦ rw is error
    ]

pub quotient_error-requires-clause-nonzero : goal.quotient_error-requires-clause-nonzero
quotient_error-requires-clause-nonzero c = rw c.in-Div.is at c.requires.nonzero

pub product_quotient_error-requires-clause-nonzero : goal.product_quotient_error-requires-clause-nonzero
product_quotient_error-requires-clause-nonzero c = rw c.in-MulDiv.is at c.requires.nonzero

pub shifted_quotient_error-requires-clause-nonzero : goal.shifted_quotient_error-requires-clause-nonzero
shifted_quotient_error-requires-clause-nonzero c = rw c.in-DivShLeft.is at c.requires.nonzero
