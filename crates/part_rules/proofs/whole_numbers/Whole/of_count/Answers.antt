use Rattle.part_rules.proofs.WordSteps.{count_word}
use Rattle.part_rules.proofs.whole_numbers.Whole.of_count.Goals as goal

pub returns : goal.returns
returns c =
    count_word c.args.count c.from.result c.ranges.count (record { sfits = c.from.type_inv }) c.from.ensures
