use Rattle.std.proofs.Common.{ap, ◌∙◌}
use Rattle.net_model.specs.Wires.{has_role}
use Rattle.cert_rules.proofs.GivenFacts.{any_has}
use Rattle.cert_rules.proofs.arguments.keeps.Goals as goal

pub returns : goal.returns
returns c =
    c.has_role.ensures ∙ any_has c.args.role c.roles.result.now ∙ ap (has_role c.args.role) c.roles.ensures
