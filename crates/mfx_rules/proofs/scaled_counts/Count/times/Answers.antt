use Rattle.part_rules.proofs.WordSteps.{product_size, product_step, factor_below}
use Rattle.mfx_rules.proofs.scaled_counts.Count.times.Goals as goal

pub overflow_mul-result : goal.overflow_mul-result
overflow_mul-result c =
    (product_step c.args.self.number c.args.other.number (factor_below c.requires.first) c.requires.second).fits

pub returns-clause-number : goal.returns-clause-number
returns-clause-number c =
    (product_step c.args.self.number c.args.other.number (factor_below c.requires.first) c.requires.second).value

pub returns-clause-size : goal.returns-clause-size
returns-clause-size c = product_size c.args.self.number c.args.other.number c.requires.first c.requires.second
