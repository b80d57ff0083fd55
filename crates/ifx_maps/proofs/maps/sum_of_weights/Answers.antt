use Rattle.std.proofs.Common.{arith, subst, sym, pos, ◌≤ℤ◌}
use Rattle.std.proofs.Math.Nat.{mul-pos}
use Rattle.std.proofs.lemmas.Int.{ints}
use borrow.Author.Differences.{at_most_in}
use Rattle.ifx_maps.proofs.WeightedValues.{spans_word}
use Rattle.ifx_maps.proofs.maps.sum_of_weights.Goals as goal

pub returns-clause-weights : goal.returns-clause-weights
returns-clause-weights c = spans_word c.from.result c.from-2.result c.args.y.now.span c.args.x.now.span c.from.ensures c.from-2.ensures c.args.y.now.few c.args.x.now.few

pub returns-clause-some : goal.returns-clause-some
returns-clause-some c =
    let product = spans_word c.from.result c.from-2.result c.args.y.now.span c.args.x.now.span c.from.ensures c.from-2.ensures c.args.y.now.few c.args.x.now.few in
    subst (λ z. pos 1 ≤ℤ z) (sym product) (at_most_in _ _ (omega (arith, ints, mul-pos c.args.y.now.some c.args.x.now.some)))
