use Rattle.std.proofs.Common.{◌∙◌}
use Rattle.cert_rules.specs.Acceptance.{part_at}
use Rattle.cert_rules.proofs.RuleFacts.{rule_allowed, rule_lacking, rule_none}
use Rattle.cert_rules.proofs.ruling.rule.Goals as goal

pub returns-then-allowed : goal.returns-then-allowed
returns-then-allowed c =
    rule_allowed c.args.net.now c.args.all.now (part_at c.args.net.now c.args.part.0) _ _ _ c.proposed.ensures c.in_ok-b.was c.allowed.ensures c.if-allowed.true

pub returns-else-allowed : goal.returns-else-allowed
returns-else-allowed c =
    rule_none c.args.net.now c.args.all.now (part_at c.args.net.now c.args.part.0) _ _ _ c.proposed.ensures c.in_ok-b.was c.allowed.ensures c.if-allowed.false

pub returns-in_err-b : goal.returns-in_err-b
returns-in_err-b c =
    c.from_residual.ensures ∙ rule_lacking c.args.net.now c.args.all.now (part_at c.args.net.now c.args.part.0) _ c.proposed.ensures c.in_err-b.was
