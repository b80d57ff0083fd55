use Rattle.std.proofs.Common.{rules}
use Rattle.fx_core.proofs.Words.{shift_rounds, shifted_fits, shifted_left, shifted_right}
use Rattle.fx_core.proofs.quotient.shift_round.Goals as goal

pub overflow_mul-result : goal.overflow_mul-result
overflow_mul-result c =
    let q = c.requires in
    shifted_fits c.args.n c.args.e _ _ q.size q.right q.left c.ranges.n c.ranges.e (search rules) c.unsigned_abs-places.ensures.value c.power_of_two-factor.ensures

pub returns-then-e-ge0-clause-value : goal.returns-then-e-ge0-clause-value
returns-then-e-ge0-clause-value c =
    shifted_left c.args.m c.args.n c.args.e _ _ c.ranges.n c.ranges.e (search rules) (overflow_mul-result c) c.unsigned_abs-places.ensures.value c.power_of_two-factor.ensures c.if-e-ge0.true

pub returns-then-e-ge0-clause-relation : goal.returns-then-e-ge0-clause-relation
returns-then-e-ge0-clause-relation c = shift_rounds _ _ _ _ (returns-then-e-ge0-clause-value c)

pub returns-else-e-ge0-clause-value : goal.returns-else-e-ge0-clause-value
returns-else-e-ge0-clause-value c =
    shifted_right c.args.m c.args.n c.args.e _ _ _ c.ranges.n c.ranges.e (search rules) (search rules) c.unsigned_abs-places.ensures.value c.power_of_two-factor.ensures c.if-e-ge0.false c.round_by_power.ensures

pub returns-else-e-ge0-clause-relation : goal.returns-else-e-ge0-clause-relation
returns-else-e-ge0-clause-relation c = shift_rounds _ _ _ _ (returns-else-e-ge0-clause-value c)
