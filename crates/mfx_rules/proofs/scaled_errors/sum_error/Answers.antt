use Rattle.std.proofs.Common.{◌∙◌, arith}
use Rattle.std.specs.Int.{w128}
use Rattle.std.proofs.lemmas.Int.{to_z-of_z}
use Rattle.mfx_rules.proofs.ScaledSizes.{IsErrorSum, IsHighest, is_error_sum, is_highest, sum_value}
use Rattle.part_rules.proofs.WordSteps.{is_error}
use Rattle.mfx_rules.proofs.scaled_errors.sum_error.Goals as goal

pub plus-sum-requires-clause-first : goal.plus-sum-requires-clause-first
plus-sum-requires-clause-first c =
    (is_error c.args.x c.exact.result.number c.requires.first c.exact.ensures.number).size

pub plus-sum-requires-clause-second : goal.plus-sum-requires-clause-second
plus-sum-requires-clause-second c =
    (is_error c.args.y c.exact-2.result.number c.requires.second c.exact-2.ensures.number).size

pub plus-sum-requires-clause-up : goal.plus-sum-requires-clause-up
plus-sum-requires-clause-up c =
    let highest : IsHighest c.args.p c.highest-high.result = is_highest c.args.p c.highest-high.result c.requires.points c.highest-high.ensures in
    (rw c.exact.ensures.point highest.first, rw c.exact-2.ensures.point highest.second)

pub plus-sum-requires-clause-few : goal.plus-sum-requires-clause-few
plus-sum-requires-clause-few c =
    (is_highest c.args.p c.highest-high.result c.requires.points c.highest-high.ensures).few

pub overflow_sub-high : goal.overflow_sub-high
overflow_sub-high c =
    (is_highest c.args.p c.highest-high.result c.requires.points c.highest-high.ensures).output

pub shifted_error-requires-clause-shift : goal.shifted_error-requires-clause-shift
shifted_error-requires-clause-shift c =
    let highest : IsHighest c.args.p c.highest-high.result = is_highest c.args.p c.highest-high.result c.requires.points c.highest-high.ensures in
    let few = highest.few in
    omega (arith, few)

pub shifted_error-requires-clause-low : goal.shifted_error-requires-clause-low
shifted_error-requires-clause-low c =
    (is_error_sum c.exact.result.number c.exact-2.result.number c.plus-sum.result.number c.exact.result.point c.exact-2.result.point c.highest-high.result (is_error c.args.x c.exact.result.number c.requires.first c.exact.ensures.number).low (is_error c.args.y c.exact-2.result.number c.requires.second c.exact-2.ensures.number).low c.plus-sum.ensures.number c.plus-sum.ensures.size).low

pub shifted_error-requires-clause-high : goal.shifted_error-requires-clause-high
shifted_error-requires-clause-high c =
    (is_error_sum c.exact.result.number c.exact-2.result.number c.plus-sum.result.number c.exact.result.point c.exact-2.result.point c.highest-high.result (is_error c.args.x c.exact.result.number c.requires.first c.exact.ensures.number).low (is_error c.args.y c.exact-2.result.number c.requires.second c.exact-2.ensures.number).low c.plus-sum.ensures.number c.plus-sum.ensures.size).high

pub returns : goal.returns
returns c =
    let plain : IsErrorSum c.plus-sum.result.number = is_error_sum c.exact.result.number c.exact-2.result.number c.plus-sum.result.number c.exact.result.point c.exact-2.result.point c.highest-high.result (is_error c.args.x c.exact.result.number c.requires.first c.exact.ensures.number).low (is_error c.args.y c.exact-2.result.number c.requires.second c.exact-2.ensures.number).low c.plus-sum.ensures.number c.plus-sum.ensures.size in
    to_z-of_z w128 c.shifted_error.result (record { sfits = c.shifted_error.type_inv }) ∙ sum_value c.args.p c.args.x.err c.args.y.err _ _ _ _ _ _ _ (is_error c.args.x c.exact.result.number c.requires.first c.exact.ensures.number).value (is_error c.args.y c.exact-2.result.number c.requires.second c.exact-2.ensures.number).value c.exact.ensures.point c.exact-2.ensures.point c.highest-high.ensures c.plus-sum.ensures.number plain.value c.shifted_error.ensures
