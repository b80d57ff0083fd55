use Rattle.part_rules.proofs.WordSteps.{factor_below, product_size, product_step}
use Rattle.part_rules.proofs.whole_numbers.Whole.times.Goals as goal

pub overflow_mul-result : goal.overflow_mul-result
overflow_mul-result c =
    (product_step c.args.self.number c.args.other.number (factor_below c.requires.first) c.requires.second).fits

pub returns-clause-value : goal.returns-clause-value
returns-clause-value c =
    (product_step c.args.self.number c.args.other.number (factor_below c.requires.first) c.requires.second).value

pub returns-clause-size : goal.returns-clause-size
returns-clause-size c = product_size c.args.self.number c.args.other.number c.requires.first c.requires.second
