use Rattle.part_rules.proofs.WordSteps.{errors_fit, errors_sum}
use Rattle.part_rules.proofs.errors.sum_error.Goals as goal

pub overflow_add-x : goal.overflow_add-x
overflow_add-x c = errors_fit c.args.x c.args.y c.requires.first c.requires.second

pub returns : goal.returns
returns c = errors_sum c.args.x c.args.y c.from.result c.requires.first c.requires.second c.from.ensures
