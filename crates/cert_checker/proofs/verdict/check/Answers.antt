use Rattle.std.proofs.Common.{sym}
use Rattle.cert_checker.proofs.RejectedPlaces.{rejected_below}
use Rattle.cert_checker.proofs.Verdicts.{accepts_unless_found, proved_unless_found, refused_if_rejected, rejected_if_found}
use Rattle.cert_checker.proofs.verdict.check.Goals as goal

pub invariant_of-result : goal.invariant_of-result
invariant_of-result c =
    proved_unless_found c.args.net.now c.args.cert.now _ c.rejected_part.ensures.valid c.requires.smooth c.requires.complete (rw c.bounds.ensures.entries at c.rejected_part.ensures.first) c.in-None.is

pub returns-in-None-clause-accepted : goal.returns-in-None-clause-accepted
returns-in-None-clause-accepted c =
    accepts_unless_found c.args.net.now c.args.cert.now _ c.requires.smooth c.requires.complete (rw c.bounds.ensures.entries at c.rejected_part.ensures.first) c.in-None.is

pub returns-in-Some-clause-refused : goal.returns-in-Some-clause-refused
returns-in-Some-clause-refused c =
    refused_if_rejected c.args.net.now c.args.cert.now c.in-Some.part.0 (rejected_if_found c.args.net.now c.args.cert.now _ c.in-Some.part (rw c.bounds.ensures.entries at c.rejected_part.ensures.first) c.in-Some.is)

pub returns-in-Some-clause-there : goal.returns-in-Some-clause-there
returns-in-Some-clause-there c =
    rejected_below c.args.net.now c.args.cert.now c.in-Some.part.0 (sym (rejected_if_found c.args.net.now c.args.cert.now _ c.in-Some.part (rw c.bounds.ensures.entries at c.rejected_part.ensures.first) c.in-Some.is))
