use Rattle.std.proofs.Common.{arith}
use Rattle.net_eval.proofs.RowFacts.{after_along, after_start, planned_start, states_back}
use Rattle.net_eval.proofs.evaluator.Plan.reset.Goals as goal

pub invariant_of-self : goal.invariant_of-self
invariant_of-self c =
    let net = c.self.inside.net.now in
    let states = c.self.inside.states in
    let back = states_back net states.items c.restart.new.states states.len c.restart.ensures (omega (arith, states.ok, c.self.invariant.0.kept.one_each)) in
    (planned_start net _ _ _ c.self.invariant.0.valid c.self.invariant.0.resolved c.self.invariant.0.handed back, c.self.invariant.1)

pub returns-clause-start : goal.returns-clause-start
returns-clause-start c =
    let net = c.self.inside.net.now in
    let states = c.self.inside.states in
    let back = states_back net states.items c.restart.new.states states.len c.restart.ensures (omega (arith, states.ok, c.self.invariant.0.kept.one_each)) in
    after_along c.args.self.now net states.items _ _ c.self.view_is (after_start net _ c.self.invariant.0.valid back)
