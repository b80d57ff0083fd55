use Rattle.std.proofs.Common.{rules}
use Rattle.cert_rules.proofs.RuleFacts.{entry_is}
use Rattle.cert_rules.proofs.lookups.part_entry.Goals as goal

pub returns : goal.returns
returns c = entry_is c.args.net.now c.args.entries.now c.args.part c.part_number-number.result.0 _ c.part_number-number.ensures.number (search rules)
