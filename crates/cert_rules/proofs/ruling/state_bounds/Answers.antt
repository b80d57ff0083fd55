use Rattle.std.proofs.Common.{refl, rules, w32}
use Rattle.std.proofs.lemmas.Int.{to_z-of_z}
use Rattle.cert_rules.proofs.BlockRules.{stateless_parts}
use Rattle.cert_rules.proofs.GivenFacts.{dt1_given, dt1_states, pt1_given, pt1_states, stateless_gives}
use Rattle.cert_rules.proofs.ruling.state_bounds.Goals as goal

pub lag_bounds-requires-clause-weight : goal.lag_bounds-requires-clause-weight
lag_bounds-requires-clause-weight c = (pt1_given c.args.net.now c.args.wire.0 c.args.block.now _ _ _ _ _ c.args.given c.requires.valid c.requires.there c.requires.block c.requires.sized c.in-Pt1.is).weight

pub lag_bounds-requires-clause-state : goal.lag_bounds-requires-clause-state
lag_bounds-requires-clause-state c = (pt1_given c.args.net.now c.args.wire.0 c.args.block.now _ _ _ _ _ c.args.given c.requires.valid c.requires.there c.requires.block c.requires.sized c.in-Pt1.is).state

pub lag_bounds-requires-clause-input : goal.lag_bounds-requires-clause-input
lag_bounds-requires-clause-input c = (pt1_given c.args.net.now c.args.wire.0 c.args.block.now _ _ _ _ _ c.args.given c.requires.valid c.requires.there c.requires.block c.requires.sized c.in-Pt1.is).second

pub returns-in-Pt1 : goal.returns-in-Pt1
returns-in-Pt1 c = λ known given. pt1_states c.args.net.now c.args.wire.0 c.args.block.now _ _ _ _ _ _ c.args.given known _ c.in-Pt1.is (to_z-of_z w32 c.in-Pt1.k (search rules)) given c.lag_bounds.ensures

pub returns-in-Dt1 : goal.returns-in-Dt1
returns-in-Dt1 c = λ known given. dt1_states c.args.net.now c.args.wire.0 c.args.block.now _ _ _ _ _ _ _ c.args.given known _ c.in-Dt1.is (to_z-of_z w32 c.in-Dt1.k (search rules)) given c.difference_bounds.ensures

pub difference_bounds-requires-clause-weight : goal.difference_bounds-requires-clause-weight
difference_bounds-requires-clause-weight c = (dt1_given c.args.net.now c.args.wire.0 c.args.block.now _ _ _ _ _ _ c.args.given c.requires.valid c.requires.there c.requires.block c.requires.sized c.in-Dt1.is).0.weight

pub difference_bounds-requires-clause-state : goal.difference_bounds-requires-clause-state
difference_bounds-requires-clause-state c = (dt1_given c.args.net.now c.args.wire.0 c.args.block.now _ _ _ _ _ _ c.args.given c.requires.valid c.requires.there c.requires.block c.requires.sized c.in-Dt1.is).0.state

pub difference_bounds-requires-clause-newer : goal.difference_bounds-requires-clause-newer
difference_bounds-requires-clause-newer c = (dt1_given c.args.net.now c.args.wire.0 c.args.block.now _ _ _ _ _ _ c.args.given c.requires.valid c.requires.there c.requires.block c.requires.sized c.in-Dt1.is).0.second

pub difference_bounds-requires-clause-older : goal.difference_bounds-requires-clause-older
difference_bounds-requires-clause-older c = (dt1_given c.args.net.now c.args.wire.0 c.args.block.now _ _ _ _ _ _ c.args.given c.requires.valid c.requires.there c.requires.block c.requires.sized c.in-Dt1.is).1

pub returns-in_default : goal.returns-in_default
returns-in_default c = λ known given.
    stateless_gives c.args.net.now c.args.wire.0 c.args.block.now known _ (stateless_parts c.args.wire.0 c.args.block.now c.in_default.not-Pt1 c.in_default.not-Dt1) refl
