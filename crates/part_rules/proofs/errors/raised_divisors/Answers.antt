use Rattle.std.proofs.Common.{◌∙◌, ap₂, ◌*ℤ◌}
use Rattle.part_rules.proofs.Sizes.{raised_divisors_fits, raised_divisors_word, raised_divisors_some}
use Rattle.part_rules.proofs.errors.raised_divisors.Goals as goal

pub overflow_mul-result : goal.overflow_mul-result
overflow_mul-result c =
    raised_divisors_fits c.divisors.result c.power_of_two.result c.divisors.ensures.low c.divisors.ensures.high c.power_of_two.ensures.size

pub returns-clause-value : goal.returns-clause-value
returns-clause-value c =
    raised_divisors_word c.divisors.result c.power_of_two.result c.divisors.ensures.low c.divisors.ensures.high c.power_of_two.ensures.size
    ∙ ap₂ (λ s t. s *ℤ t) c.divisors.ensures.value c.power_of_two.ensures.value

pub returns-clause-low : goal.returns-clause-low
returns-clause-low c =
    raised_divisors_some c.args.shift c.divisors.result c.power_of_two.result c.divisors.ensures.low c.divisors.ensures.high c.power_of_two.ensures.value c.power_of_two.ensures.size
