use Rattle.std.proofs.Common.{◌∙◌, ap, ◌*ℤ◌}
use Rattle.mfx_scaled.proofs.Sizes.{raised_step}
use Rattle.mfx_scaled.proofs.counts.Count.raised.Goals as goal

pub overflow_mul-result : goal.overflow_mul-result
overflow_mul-result c = (raised_step c.args.self.number c.power_of_two.result c.requires.size c.power_of_two.ensures.size).fits

pub returns-clause-number : goal.returns-clause-number
returns-clause-number c =
    (raised_step c.args.self.number c.power_of_two.result c.requires.size c.power_of_two.ensures.size).value
    ∙ ap (λ f. c.args.self.number *ℤ f) c.power_of_two.ensures.value

pub returns-clause-size : goal.returns-clause-size
returns-clause-size c = (raised_step c.args.self.number c.power_of_two.result c.requires.size c.power_of_two.ensures.size).size
