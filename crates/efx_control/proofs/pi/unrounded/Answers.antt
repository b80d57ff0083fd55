use Rattle.std.proofs.Common.{◌≡◌, ◌∙◌, ◌+ℤ◌, ◌-ℤ◌, ◌*ℤ◌, ap₂, arith, pos, rules}
use Rattle.efx_control.specs.Formulas.{before_weight, input_weight}
use Rattle.efx_control.proofs.Sums.{moved_step, state_step}
use Rattle.efx_control.proofs.pi.unrounded.Goals as goal

pub overflow_sub-moved : goal.overflow_sub-moved
overflow_sub-moved c = (moved_step c.weighted.result c.weighted-2.result c.weighted.ensures.size c.weighted-2.ensures.size).fits

pub overflow_add-result : goal.overflow_add-result
overflow_add-result c = (state_step c.scaled.result c.weighted.result c.weighted-2.result c.scaled.ensures.size c.weighted.ensures.size c.weighted-2.ensures.size).fits

pub returns-clause-value : goal.returns-clause-value
returns-clause-value c =
    let kept : c.scaled.result ≡ c.args.y *ℤ pos 65536 = search rules in
    let now : c.weighted.result ≡ c.args.x *ℤ input_weight c.args.second c.args.k c.args.r = search rules in
    let before : c.weighted-2.result ≡ c.args.x1 *ℤ before_weight c.args.second c.args.k c.args.r = search rules in
    (state_step c.scaled.result c.weighted.result c.weighted-2.result c.scaled.ensures.size c.weighted.ensures.size c.weighted-2.ensures.size).value
    ∙ ap₂ (λ s t. s +ℤ t) kept (ap₂ (λ s t. s -ℤ t) now before)

pub returns-clause-size : goal.returns-clause-size
returns-clause-size c =
    let size = (state_step c.scaled.result c.weighted.result c.weighted-2.result c.scaled.ensures.size c.weighted.ensures.size c.weighted-2.ensures.size).size in
    omega (arith, size)
