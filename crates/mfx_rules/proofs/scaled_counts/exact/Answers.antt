use Rattle.part_rules.proofs.WordSteps.{count_word}
use Rattle.mfx_rules.proofs.scaled_counts.exact.Goals as goal

pub returns-clause-number : goal.returns-clause-number
returns-clause-number c =
    count_word c.args.number c.from.result c.ranges.number (record { sfits = c.from.type_inv }) c.from.ensures
