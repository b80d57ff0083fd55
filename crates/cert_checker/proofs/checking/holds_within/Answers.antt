use Rattle.std.proofs.Common.{◌∙◌, sym, rules}
use Rattle.cert_checker.proofs.Findings.{all_three, not_both}
use Rattle.cert_checker.proofs.checking.holds_within.Goals as goal
use Rattle.cert_checker.proofs.checking.holds_within.Goals.{then-entry-given, else-entry-given}

pub returns-then-given-entry : goal.returns-then-given-entry
returns-then-given-entry c =
    elim c.if-entry-given.branch [ then-entry-given w ↦ all_three c.args.entry c.args.given (search rules) (search rules) (search rules) (search rules) (search rules) (search rules) w.if-entry-given.true (sym w.value-is ∙ c.if-given-entry.true) | else-entry-given w ↦ not_both (sym w.if-entry-given.false ∙ sym w.value-is ∙ c.if-given-entry.true) ]
