use Rattle.part_rules.proofs.WordSteps.{count_below, sum_step}
use Rattle.part_rules.proofs.whole_numbers.Whole.plus.Goals as goal

pub overflow_add-result : goal.overflow_add-result
overflow_add-result c =
    (sum_step c.args.self.number c.args.other.number (count_below c.requires.first) (count_below c.requires.second)).fits

pub returns : goal.returns
returns c =
    (sum_step c.args.self.number c.args.other.number (count_below c.requires.first) (count_below c.requires.second)).value
