use Rattle.std.specs.Int.{w128}
use Rattle.std.proofs.lemmas.Int.{to_z-of_z}
use Rattle.part_rules.specs.Errors.{quotient_error}
use Rattle.part_rules.proofs.Sizes.{above_words}
use Rattle.part_rules.proofs.errors.quotient_error.Goals as goal

pub overflow_add-result : goal.overflow_add-result
overflow_add-result c =
    (above_words c.moves.result c.raised_divisors.result _ _ c.ceil_div.result c.moves.ensures.low c.moves.ensures.high c.raised_divisors.ensures.low (record { sfits = c.raised_divisors.type_inv }) c.moves.ensures.value c.raised_divisors.ensures.value c.ceil_div.ensures.value).fits

pub returns : goal.returns
unfolding quotient_error
returns c =
    let moves = rw (to_z-of_z w128 c.args.top c.ranges.top, to_z-of_z w128 c.args.err c.ranges.err) at c.moves.ensures.value in
    (above_words c.moves.result c.raised_divisors.result _ _ c.ceil_div.result c.moves.ensures.low c.moves.ensures.high c.raised_divisors.ensures.low (record { sfits = c.raised_divisors.type_inv }) moves c.raised_divisors.ensures.value c.ceil_div.ensures.value).value
