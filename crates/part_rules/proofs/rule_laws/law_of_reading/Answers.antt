use Rattle.part_rules.proofs.RuleLaws.{depends_on_reads}
use Rattle.part_rules.proofs.rule_laws.law_of_reading.Goals as goal

pub returns : goal.returns
returns c = depends_on_reads
