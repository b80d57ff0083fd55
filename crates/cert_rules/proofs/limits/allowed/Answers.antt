use Rattle.std.proofs.Common.{rules}
use Rattle.cert_rules.proofs.RuleFacts.{allowed_from_tests}
use Rattle.cert_rules.proofs.limits.allowed.Goals as goal

pub returns : goal.returns
returns c =
    allowed_from_tests c.args.net.now _ c.part_numbered-part.result c.args.b c.ends_of_part-ends.result.least c.ends_of_part-ends.result.greatest c.cap_of_role.result _ (search rules) (search rules) (search rules) c.part_numbered-part.ensures.part c.ends_of_part-ends.ensures.least c.ends_of_part-ends.ensures.greatest c.cap_of_role.ensures c.is_inside.ensures
