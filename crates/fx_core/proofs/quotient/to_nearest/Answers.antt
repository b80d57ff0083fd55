use Rattle.std.proofs.Common.{rules}
use Rattle.fx_core.proofs.Words.{IsSplit, nearest_above, nearest_below, nearest_fits, split_word}
use Rattle.fx_core.proofs.quotient.to_nearest.Goals as goal

pub overflow_add-result : goal.overflow_add-result
overflow_add-result c =
    let r = c.downward-below.result in
    let rest = c.rem_euclid-rest.result in
    let e = c.rem_euclid-rest.ensures in
    let split : IsSplit c.args.n c.args.d r rest = split_word _ _ _ _ c.requires c.ranges.n c.ranges.d c.downward-below.ensures e.value e.lower_bound e.upper_bound in
    nearest_fits _ _ _ _ c.requires c.ranges.n c.ranges.d (search rules) (search rules) split c.if-rest-d.true

pub returns-then-rest-d : goal.returns-then-rest-d
returns-then-rest-d c =
    let r = c.downward-below.result in
    let rest = c.rem_euclid-rest.result in
    let e = c.rem_euclid-rest.ensures in
    let split : IsSplit c.args.n c.args.d r rest = split_word _ _ _ _ c.requires c.ranges.n c.ranges.d c.downward-below.ensures e.value e.lower_bound e.upper_bound in
    nearest_above _ _ _ _ c.requires c.ranges.n c.ranges.d (search rules) (search rules) split c.if-rest-d.true

pub returns-else-rest-d : goal.returns-else-rest-d
returns-else-rest-d c =
    let r = c.downward-below.result in
    let rest = c.rem_euclid-rest.result in
    let e = c.rem_euclid-rest.ensures in
    let split : IsSplit c.args.n c.args.d r rest = split_word _ _ _ _ c.requires c.ranges.n c.ranges.d c.downward-below.ensures e.value e.lower_bound e.upper_bound in
    nearest_below _ _ _ _ c.requires c.ranges.n c.ranges.d (search rules) (search rules) split c.if-rest-d.false
