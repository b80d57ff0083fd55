use Rattle.std.proofs.Common.{◌∙◌, ap₂, ◌+ℤ◌}
use Rattle.mfx_scaled.proofs.Sizes.{sum_step}
use Rattle.mfx_scaled.proofs.counts.Count.plus.Goals as goal

pub overflow_add-result : goal.overflow_add-result
overflow_add-result c = (sum_step c.raised.result.number c.raised-2.result.number c.raised.ensures.size c.raised-2.ensures.size).fits

pub returns-clause-number : goal.returns-clause-number
returns-clause-number c =
    (sum_step c.raised.result.number c.raised-2.result.number c.raised.ensures.size c.raised-2.ensures.size).value
    ∙ ap₂ (λ s t. s +ℤ t) c.raised.ensures.number c.raised-2.ensures.number

pub returns-clause-size : goal.returns-clause-size
returns-clause-size c = (sum_step c.raised.result.number c.raised-2.result.number c.raised.ensures.size c.raised-2.ensures.size).size
