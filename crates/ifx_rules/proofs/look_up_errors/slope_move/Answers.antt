use Rattle.std.proofs.Common.{◌∙◌, ◌*ℤ◌, ap₂, rules}
use Rattle.std.specs.Int.{w64, w128}
use Rattle.std.proofs.lemmas.Int.{to_z-of_z}
use Rattle.fx_core.specs.Rounding.{least_quotient_above}
use Rattle.ifx_rules.proofs.look_up_errors.slope_move.Goals as goal

pub returns-clause-value : goal.returns-clause-value
returns-clause-value c =
    let rise = to_z-of_z w128 c.from.result (record { sfits = c.from.type_inv }) ∙ c.from.ensures ∙ to_z-of_z w64 c.args.steepest.rise (search rules) in
    let err = to_z-of_z w128 c.from-2.result (record { sfits = c.from-2.type_inv }) ∙ c.from-2.ensures ∙ to_z-of_z w64 c.args.x.err (search rules) in
    let run = to_z-of_z w128 c.from-3.result (record { sfits = c.from-3.type_inv }) ∙ c.from-3.ensures ∙ to_z-of_z w64 c.args.steepest.run (search rules) in
    let raised = to_z-of_z w128 c.product-raised.result (record { sfits = c.product-raised.type_inv }) ∙ c.product-raised.ensures.value ∙ ap₂ (λ s t. s *ℤ t) rise err in
    to_z-of_z w128 c.quotient_above.result (record { sfits = c.quotient_above.type_inv })
    ∙ c.quotient_above.ensures.value
    ∙ ap₂ least_quotient_above raised run
