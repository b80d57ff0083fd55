use Rattle.std.proofs.Common.{◌∙◌, ap, ◌*ℤ◌}
use Rattle.part_rules.proofs.WordSteps.{product_step, raised_size, small_power}
use Rattle.mfx_rules.proofs.scaled_counts.Count.raised.Goals as goal

pub overflow_mul-result : goal.overflow_mul-result
overflow_mul-result c =
    (product_step c.args.self.number c.power_of_two.result c.requires.size (small_power c.power_of_two.ensures.size)).fits

pub returns-clause-number : goal.returns-clause-number
returns-clause-number c =
    (product_step c.args.self.number c.power_of_two.result c.requires.size (small_power c.power_of_two.ensures.size)).value ∙ ap (λ f. c.args.self.number *ℤ f) c.power_of_two.ensures.value

pub returns-clause-size : goal.returns-clause-size
returns-clause-size c =
    raised_size c.args.self.number c.power_of_two.result c.requires.size c.power_of_two.ensures.size
