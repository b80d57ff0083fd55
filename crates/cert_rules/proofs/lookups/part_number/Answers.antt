use Rattle.cert_rules.proofs.RuleFacts.{number_is, number_there}
use Rattle.cert_rules.proofs.lookups.part_number.Goals as goal

pub unreachable-requires : goal.unreachable-requires
unreachable-requires c = number_there c.args.net.now c.args.part _ c.requires c.part_of.ensures c.in-None.is

pub returns-clause-number : goal.returns-clause-number
returns-clause-number c = (number_is c.args.net.now c.args.part _ _ c.requires c.part_of.ensures c.in-Some.is).0

pub returns-clause-there : goal.returns-clause-there
returns-clause-there c = (number_is c.args.net.now c.args.part _ _ c.requires c.part_of.ensures c.in-Some.is).1
