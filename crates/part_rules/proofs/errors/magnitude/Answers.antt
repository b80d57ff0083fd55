use Rattle.part_rules.proofs.MagnitudeWords.{IsMagnitude, magnitude_is}
use Rattle.part_rules.proofs.errors.magnitude.Goals as goal

is : (c : goal.After-greater) → IsMagnitude c.args.b c.greater.result
is c =
    magnitude_is c.args.b c.absolute.result c.absolute-2.result c.greater.result c.requires c.absolute.ensures.value c.absolute-2.ensures.value c.absolute.ensures.high c.absolute-2.ensures.high c.greater.ensures

pub returns-clause-value : goal.returns-clause-value
returns-clause-value c =
    let magnitude = is c in
    magnitude.value

pub returns-clause-low : goal.returns-clause-low
returns-clause-low c =
    let magnitude = is c in
    magnitude.low

pub returns-clause-high : goal.returns-clause-high
returns-clause-high c =
    let magnitude = is c in
    magnitude.high
