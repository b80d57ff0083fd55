use Rattle.cert_checker.proofs.Findings.{rejected_first, rejected_later}
use Rattle.cert_checker.proofs.checking.rejected_part.Goals as goal

pub first_narrow-requires-clause-allowed : goal.first_narrow-requires-clause-allowed
first_narrow-requires-clause-allowed c =
    c.first_disallowed.ensures.allowed c.in-None.is

pub returns-in-Some-clause-first : goal.returns-in-Some-clause-first
returns-in-Some-clause-first c =
    rejected_first c.args.net.now c.args.entries.now _ _ c.first_disallowed.ensures.first c.in-Some.is

pub returns-in-None-clause-first : goal.returns-in-None-clause-first
returns-in-None-clause-first c =
    rejected_later c.args.net.now c.args.entries.now _ _ c.first_disallowed.ensures.first c.in-None.is c.first_narrow.ensures
