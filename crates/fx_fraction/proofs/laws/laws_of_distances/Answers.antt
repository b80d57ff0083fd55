-- Each law is a lemma.
use Rattle.fx_fraction.proofs.Order.{Same_refl, Same_sym, Same_trans, AtMost_refl, AtMost_trans, AtMost_antisymm, AtMost_respects-Same, AtMost-plus, AtMost-times, AtMost-over, over-AtMost, plus-over}
use Rattle.fx_fraction.proofs.Distances.{distance-plus, distance-minus, distance-times, distance-products, distance-divided, distance-absolute, distance-lesser, distance-greater, distance_triangle, distance_comm, distance_self, error_bound, bound_of_error}
use Rattle.fx_fraction.proofs.laws.laws_of_distances.Goals as goal

pub returns-clause-same : goal.returns-clause-same
returns-clause-same c = (Same_refl, Same_sym, Same_trans)

pub returns-clause-order : goal.returns-clause-order
returns-clause-order c = (AtMost_refl, AtMost_trans, AtMost_antisymm)

pub returns-clause-names : goal.returns-clause-names
returns-clause-names c = AtMost_respects-Same

pub returns-clause-monotone_sums : goal.returns-clause-monotone_sums
returns-clause-monotone_sums c = AtMost-plus

pub returns-clause-monotone_factors : goal.returns-clause-monotone_factors
returns-clause-monotone_factors c = AtMost-times

pub returns-clause-sums : goal.returns-clause-sums
returns-clause-sums c = distance-plus

pub returns-clause-differences : goal.returns-clause-differences
returns-clause-differences c = distance-minus

pub returns-clause-factors : goal.returns-clause-factors
returns-clause-factors c = distance-times

pub returns-clause-products : goal.returns-clause-products
returns-clause-products c = distance-products

pub returns-clause-quotients : goal.returns-clause-quotients
returns-clause-quotients c = distance-divided

pub returns-clause-absolutes : goal.returns-clause-absolutes
returns-clause-absolutes c = distance-absolute

pub returns-clause-lesser : goal.returns-clause-lesser
returns-clause-lesser c = distance-lesser

pub returns-clause-greater : goal.returns-clause-greater
returns-clause-greater c = distance-greater

pub returns-clause-triangles : goal.returns-clause-triangles
returns-clause-triangles c = distance_triangle

pub returns-clause-symmetry : goal.returns-clause-symmetry
returns-clause-symmetry c = distance_comm

pub returns-clause-no_distance : goal.returns-clause-no_distance
returns-clause-no_distance c = distance_self

pub returns-clause-common_sums : goal.returns-clause-common_sums
returns-clause-common_sums c = plus-over

pub returns-clause-common_order : goal.returns-clause-common_order
returns-clause-common_order c = λ m n d p. (over-AtMost m n d p, AtMost-over m n d p)

pub returns-clause-errors : goal.returns-clause-errors
returns-clause-errors c = λ m err x s d e p i. (bound_of_error m err x s d e p i, error_bound m err x s d e p i)
