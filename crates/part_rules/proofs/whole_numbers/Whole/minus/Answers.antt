use Rattle.part_rules.proofs.WordSteps.{count_below, difference_step}
use Rattle.part_rules.proofs.whole_numbers.Whole.minus.Goals as goal

pub overflow_sub-result : goal.overflow_sub-result
overflow_sub-result c =
    (difference_step c.args.self.number c.args.other.number (count_below c.requires.first) (count_below c.requires.second)).fits

pub returns-clause-value : goal.returns-clause-value
returns-clause-value c =
    (difference_step c.args.self.number c.args.other.number (count_below c.requires.first) (count_below c.requires.second)).value

pub returns-clause-size : goal.returns-clause-size
returns-clause-size c =
    (difference_step c.args.self.number c.args.other.number (count_below c.requires.first) (count_below c.requires.second)).size
