use Rattle.std.proofs.Common.{◌∙◌}
use Rattle.cert_rules.proofs.BlockRules.{plain_parts}
use Rattle.cert_rules.proofs.arguments.value_reads.Goals as goal

pub returns-in_default : goal.returns-in_default
returns-in_default c = λ net.
    c.arguments_read.ensures ∙ plain_parts net c.args.wire.0 c.args.block.now c.in_default.not-Average c.in_default.not-Pt1 c.in_default.not-Dt1
