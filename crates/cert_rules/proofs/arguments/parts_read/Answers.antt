use Rattle.std.proofs.Common.{ap, sym, ◌∙◌}
use Rattle.cert_rules.specs.GivenBounds.{parts_in}
use Rattle.cert_rules.specs.Rules.{item_rule}
use Rattle.cert_rules.proofs.arguments.parts_read.Goals as goal

pub returns-in-Delay : goal.returns-in-Delay
returns-in-Delay c = λ net.
    c.source_read.ensures net c.args.wire.0 c.in-Delay.init ∙ ap (λ item. parts_in (item_rule net c.args.wire.0 item c.args.role).reads) (sym c.in-Delay.is)
