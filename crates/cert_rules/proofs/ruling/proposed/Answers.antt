use Rattle.cert_rules.proofs.RuleFacts.{part_reads}
use Rattle.cert_rules.proofs.ruling.proposed.Goals as goal

pub part_bounds-requires-clause-allowed : goal.part_bounds-requires-clause-allowed
part_bounds-requires-clause-allowed c =
    part_reads c.args.net.now c.args.all.now c.args.part.0 c.part_numbered.result c.part_numbered.ensures.valid c.requires.there c.requires.allowed c.part_numbered.ensures.part
