use Rattle.std.proofs.Common.{rules}
use Rattle.fx_core.proofs.Words.{quotient_by_power}
use Rattle.fx_core.proofs.quotient.round_by_power.Goals as goal

pub returns-then-eq : goal.returns-then-eq
returns-then-eq c =
    quotient_by_power c.args.m c.args.n c.args.factor c.without_digits.result c.args.places (search rules) (search rules) c.ranges.n (search rules) c.without_digits.ensures
