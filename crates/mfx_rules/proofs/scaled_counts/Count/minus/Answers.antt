use Rattle.std.proofs.Common.{◌∙◌, ap₂, ◌-ℤ◌}
use Rattle.part_rules.proofs.WordSteps.{error_below, raised_below, difference_step}
use Rattle.mfx_rules.proofs.scaled_counts.Count.minus.Goals as goal

pub raised-requires-clause-size : goal.raised-requires-clause-size
raised-requires-clause-size c = error_below c.requires.first

pub raised-requires-2-clause-size : goal.raised-requires-2-clause-size
raised-requires-2-clause-size c = error_below c.requires.second

pub overflow_sub-result : goal.overflow_sub-result
overflow_sub-result c =
    (difference_step c.raised.result.number c.raised-2.result.number (raised_below c.requires.first c.raised.ensures.size) (raised_below c.requires.second c.raised-2.ensures.size)).fits

pub returns-clause-number : goal.returns-clause-number
returns-clause-number c =
    (difference_step c.raised.result.number c.raised-2.result.number (raised_below c.requires.first c.raised.ensures.size) (raised_below c.requires.second c.raised-2.ensures.size)).value ∙ ap₂ (λ s t. s -ℤ t) c.raised.ensures.number c.raised-2.ensures.number

pub returns-clause-size : goal.returns-clause-size
returns-clause-size c =
    (difference_step c.raised.result.number c.raised-2.result.number (raised_below c.requires.first c.raised.ensures.size) (raised_below c.requires.second c.raised-2.ensures.size)).size
