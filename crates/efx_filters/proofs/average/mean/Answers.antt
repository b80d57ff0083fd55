use Rattle.std.proofs.Common.{◌≡◌, ◌∙◌, ◌+ℤ◌, ◌*ℤ◌, pos, rules}
use Rattle.std.specs.Int.{int_div_euclid}
use Rattle.efx_filters.proofs.Shifts.{mean_rounds}
use Rattle.efx_filters.proofs.average.mean.Goals as goal

pub returns : goal.returns
returns c =
    let quotient : c.div_euclid.result ≡ int_div_euclid (pos 2 *ℤ c.args.sum +ℤ pos c.args.n) (pos 2 *ℤ pos c.args.n) = search rules in
    let mean = quotient ∙ mean_rounds c.args.sum c.args.n in
    search (rules, mean)
