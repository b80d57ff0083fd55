use Rattle.part_rules.proofs.MagnitudeWords.{IsMignitude, mignitude_is}
use Rattle.part_rules.proofs.errors.mignitude.Goals as goal

is : (c : goal.After-lesser) → IsMignitude c.args.b c.lesser.result
is c =
    mignitude_is c.args.b c.holds_zero.result c.absolute.result c.absolute-else-holds_zero.result c.lesser.result c.requires c.holds_zero.ensures c.if-holds_zero.false c.absolute.ensures.value c.absolute-else-holds_zero.ensures.value c.absolute.ensures.high c.absolute-else-holds_zero.ensures.high c.lesser.ensures

pub returns-else-holds_zero-clause-value : goal.returns-else-holds_zero-clause-value
returns-else-holds_zero-clause-value c =
    let magnitude = is c in
    magnitude.value

pub returns-else-holds_zero-clause-low : goal.returns-else-holds_zero-clause-low
returns-else-holds_zero-clause-low c =
    let magnitude = is c in
    magnitude.low

pub returns-else-holds_zero-clause-high : goal.returns-else-holds_zero-clause-high
returns-else-holds_zero-clause-high c =
    let magnitude = is c in
    magnitude.high
