-- Each law is a lemma.
use Rattle.fx_fraction.proofs.Distances.{distance-plus, distance-minus, distance-times, distance-products, distance-divided, distance-absolute, distance-lesser, distance-greater}
use Rattle.fx_core.proofs.RoundedFractions.{moves_at_most_a_half, moves_less_than_one}
use Rattle.fx_core.proofs.fraction_laws.laws_of_fractions.Goals as goal

pub returns-clause-sums : goal.returns-clause-sums
returns-clause-sums c = distance-plus

pub returns-clause-differences : goal.returns-clause-differences
returns-clause-differences c = distance-minus

pub returns-clause-products : goal.returns-clause-products
returns-clause-products c = distance-products

pub returns-clause-quotients : goal.returns-clause-quotients
returns-clause-quotients c = distance-divided

pub returns-clause-absolutes : goal.returns-clause-absolutes
returns-clause-absolutes c = distance-absolute

pub returns-clause-lesser : goal.returns-clause-lesser
returns-clause-lesser c = distance-lesser

pub returns-clause-greater : goal.returns-clause-greater
returns-clause-greater c = distance-greater

pub returns-clause-roundings : goal.returns-clause-roundings
returns-clause-roundings c = (moves_less_than_one, moves_at_most_a_half)

pub returns-clause-factors : goal.returns-clause-factors
returns-clause-factors c = distance-times
