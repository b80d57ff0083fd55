use Rattle.std.proofs.Common.{◌∙◌, sym, arith}
use Rattle.cert_checker.proofs.Findings.{first_failing-end, first_failing-failed, first_failing-passed}
use Rattle.cert_checker.proofs.checking.first_narrow.Goals as goal

pub returns-then-not-is_inductive : goal.returns-then-not-is_inductive
returns-then-not-is_inductive c =
    first_failing-failed _ c.loop-k.k _ _ (omega arith) (sym c.is_inductive.ensures ∙ c.if-not-is_inductive.true) c.loop-k.invariant

pub loop-k-preserved : goal.loop-k-preserved
loop-k-preserved c =
    first_failing-passed _ c.loop-k.k _ _ (omega arith) (sym c.is_inductive.ensures ∙ c.if-not-is_inductive.false) c.loop-k.invariant

pub returns : goal.returns
returns c = first_failing-end _ c.loop-k.k _ _ (omega arith) c.loop-k.invariant
