use Rattle.cert_rules.proofs.EntryFacts.{part-wire}
use Rattle.cert_checker.proofs.parts.part_at.Goals as goal

pub returns-clause-wire : goal.returns-clause-wire
returns-clause-wire c = rw c.parts.ensures.parts (part-wire c.args.net.now c.args.k _ c.requires)
