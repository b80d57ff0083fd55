use Rattle.std.proofs.Common.{rules}
use Rattle.fx_core.proofs.Words.{IsSplit, above_bounds, above_next, above_next_fits, above_same, split_word}
use Rattle.fx_core.proofs.quotient.ceil_div.Goals as goal

pub overflow_add-result : goal.overflow_add-result
overflow_add-result c =
    let r = c.downward-below.result in
    let rest = c.rem_euclid-rest.result in
    let e = c.rem_euclid-rest.ensures in
    let split : IsSplit c.args.n c.args.d r rest = split_word _ _ _ _ c.requires.divisor c.ranges.n c.ranges.d c.downward-below.ensures e.value e.lower_bound e.upper_bound in
    above_next_fits _ _ _ _ c.requires.divisor c.ranges.n (search rules) (search rules) split c.if-rest-gt0.true

pub returns-then-rest-gt0-clause-value : goal.returns-then-rest-gt0-clause-value
returns-then-rest-gt0-clause-value c =
    let r = c.downward-below.result in
    let rest = c.rem_euclid-rest.result in
    let e = c.rem_euclid-rest.ensures in
    let split : IsSplit c.args.n c.args.d r rest = split_word _ _ _ _ c.requires.divisor c.ranges.n c.ranges.d c.downward-below.ensures e.value e.lower_bound e.upper_bound in
    above_next _ _ _ _ c.requires.divisor (search rules) (search rules) (overflow_add-result c) split c.if-rest-gt0.true

pub returns-then-rest-gt0-clause-relation : goal.returns-then-rest-gt0-clause-relation
returns-then-rest-gt0-clause-relation c =
    above_bounds _ _ _ c.requires.divisor (returns-then-rest-gt0-clause-value c)

pub returns-else-rest-gt0-clause-value : goal.returns-else-rest-gt0-clause-value
returns-else-rest-gt0-clause-value c =
    let r = c.downward-below.result in
    let rest = c.rem_euclid-rest.result in
    let e = c.rem_euclid-rest.ensures in
    let split : IsSplit c.args.n c.args.d r rest = split_word _ _ _ _ c.requires.divisor c.ranges.n c.ranges.d c.downward-below.ensures e.value e.lower_bound e.upper_bound in
    above_same _ _ _ _ c.requires.divisor (search rules) (search rules) split c.if-rest-gt0.false

pub returns-else-rest-gt0-clause-relation : goal.returns-else-rest-gt0-clause-relation
returns-else-rest-gt0-clause-relation c =
    above_bounds _ _ _ c.requires.divisor (returns-else-rest-gt0-clause-value c)
