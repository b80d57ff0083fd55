use Rattle.std.proofs.Common.{◌∙◌, sym, arith}
use Rattle.cert_checker.proofs.Findings.{first_failing-end, first_failing-failed, first_failing-passed, allowed_from_none}
use Rattle.cert_checker.proofs.checking.first_disallowed.Goals as goal

pub returns-then-not-is_allowed_at-clause-first : goal.returns-then-not-is_allowed_at-clause-first
returns-then-not-is_allowed_at-clause-first c =
    first_failing-failed _ c.loop-k.k _ _ (omega arith) (sym c.is_allowed_at.ensures ∙ c.if-not-is_allowed_at.true) c.loop-k.invariant

pub loop-k-preserved : goal.loop-k-preserved
loop-k-preserved c =
    first_failing-passed _ c.loop-k.k _ _ (omega arith) (sym c.is_allowed_at.ensures ∙ c.if-not-is_allowed_at.false) c.loop-k.invariant

pub returns-clause-first : goal.returns-clause-first
returns-clause-first c = first_failing-end _ c.loop-k.k _ _ (omega arith) c.loop-k.invariant

pub returns-clause-allowed : goal.returns-clause-allowed
returns-clause-allowed c = allowed_from_none c.args.net.now c.args.entries.now _ (returns-clause-first c)
