use Rattle.cert_checker.proofs.Findings.{inductive_not, inductive_when}
use Rattle.cert_checker.proofs.checking.is_inductive.Goals as goal

pub returns-then-starts_inside : goal.returns-then-starts_inside
returns-then-starts_inside c =
    inductive_when _ c.args.entries.now c.args.part.0 _ _ _ c.start_of_part.ensures c.starts_inside.ensures c.if-starts_inside.true c.keeps_to.ensures

pub returns-else-starts_inside : goal.returns-else-starts_inside
returns-else-starts_inside c =
    inductive_not _ c.args.entries.now c.args.part.0 _ _ c.start_of_part.ensures c.starts_inside.ensures c.if-starts_inside.false
