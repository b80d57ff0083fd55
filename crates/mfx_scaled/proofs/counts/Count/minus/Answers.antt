use Rattle.std.proofs.Common.{◌∙◌, ap₂, ◌-ℤ◌}
use Rattle.mfx_scaled.proofs.Sizes.{difference_step}
use Rattle.mfx_scaled.proofs.counts.Count.minus.Goals as goal

pub overflow_sub-result : goal.overflow_sub-result
overflow_sub-result c = (difference_step c.raised.result.number c.raised-2.result.number c.raised.ensures.size c.raised-2.ensures.size).fits

pub returns-clause-number : goal.returns-clause-number
returns-clause-number c =
    (difference_step c.raised.result.number c.raised-2.result.number c.raised.ensures.size c.raised-2.ensures.size).value
    ∙ ap₂ (λ s t. s -ℤ t) c.raised.ensures.number c.raised-2.ensures.number

pub returns-clause-size : goal.returns-clause-size
returns-clause-size c = (difference_step c.raised.result.number c.raised-2.result.number c.raised.ensures.size c.raised-2.ensures.size).size
