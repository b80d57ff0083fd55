use Rattle.part_rules.proofs.WordSteps.{is_low_end}
use Rattle.part_rules.proofs.ranges.low_end.Goals as goal

pub returns-clause-value : goal.returns-clause-value
returns-clause-value c =
    (is_low_end c.args.b c.of_count.result.number c.requires c.of_count.ensures).value

pub returns-clause-size : goal.returns-clause-size
returns-clause-size c =
    (is_low_end c.args.b c.of_count.result.number c.requires c.of_count.ensures).size
