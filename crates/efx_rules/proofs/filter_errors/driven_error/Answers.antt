use Rattle.std.proofs.Common.{◌∙◌, ap, ap₂, pos, ◌+ℤ◌, ◌*ℤ◌}
use Rattle.std.specs.Int.{w128}
use Rattle.std.proofs.lemmas.Int.{to_z-of_z}
use Rattle.fx_core.specs.Rounding.{least_quotient_above}
use Rattle.efx_rules.specs.FilterRules.{lag_error}
use Rattle.efx_rules.proofs.WordSteps.{state_error}
use Rattle.efx_rules.proofs.filter_errors.driven_error.Goals as goal

pub returns : goal.returns
unfolding lag_error
returns c =
    let weight = to_z-of_z w128 c.from.result (record { sfits = c.from.type_inv }) ∙ c.from.ensures in
    let err = to_z-of_z w128 c.from-2.result (record { sfits = c.from-2.type_inv }) ∙ c.from-2.ensures ∙ state_error c.args.y c.requires.state in
    let old = to_z-of_z w128 c.weighed-old.result (record { sfits = c.weighed-old.type_inv }) ∙ c.weighed-old.ensures.value ∙ ap₂ (λ s t. s *ℤ t) weight err in
    let size = to_z-of_z w128 c.drive_size.result (record { sfits = c.drive_size.type_inv }) ∙ c.drive_size.ensures.value in
    let driven = to_z-of_z w128 c.weighed-driven.result (record { sfits = c.weighed-driven.type_inv }) ∙ c.weighed-driven.ensures.value ∙ ap₂ (λ s t. s *ℤ t) size (to_z-of_z w128 c.args.drive c.ranges.drive) in
    let sum = to_z-of_z w128 c.both.result (record { sfits = c.both.type_inv }) ∙ c.both.ensures.value ∙ ap₂ (λ s t. s +ℤ t) old driven in
    to_z-of_z w128 c.rounded_error.result (record { sfits = c.rounded_error.type_inv }) ∙ c.rounded_error.ensures ∙ ap (λ e. least_quotient_above e (pos 65536) +ℤ pos 32768) sum
