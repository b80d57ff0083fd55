use Rattle.std.proofs.Common.{rules}
use Rattle.net_eval.proofs.RowFacts.{after_start, planned_start}
use Rattle.net_eval.proofs.evaluator.Plan.new.Goals as goal

pub invariant_of-result : goal.invariant_of-result
invariant_of-result c =
    (planned_start c.args.net.now _ _ _ c.wires.ensures.valid c.in_ok-steps.ensures c.in_ok-handovers.ensures c.in_ok-states.ensures, (search rules))

pub returns-clause-start : goal.returns-clause-start
returns-clause-start c = after_start c.args.net.now _ c.wires.ensures.valid c.in_ok-states.ensures
