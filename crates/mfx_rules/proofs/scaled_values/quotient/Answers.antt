use Rattle.std.proofs.Common.{◌∙◌, ◌+◌, ap, ap₂}
use Rattle.std.specs.Prelude.{int_div}
use Rattle.mfx_scaled.specs.Counts.{raised}
use Rattle.part_rules.proofs.WordSteps.{word, factor_below, plain_count, raised_wide}
use Rattle.mfx_rules.proofs.ScaledRoutines.{some_raised}
use Rattle.mfx_rules.proofs.scaled_values.quotient.Goals as goal

pub raised-requires-clause-size : goal.raised-requires-clause-size
raised-requires-clause-size c = factor_below c.requires.first

pub raised-requires-2-clause-size : goal.raised-requires-2-clause-size
raised-requires-2-clause-size c = rw (plain_count c.args.divisor.number c.requires.second) (factor_below c.requires.second)

pub over-requires-clause-dividend : goal.over-requires-clause-dividend
over-requires-clause-dividend c = raised_wide c.requires.first c.raised.ensures.size

pub over-requires-clause-divisor : goal.over-requires-clause-divisor
over-requires-clause-divisor c =
    raised_wide c.requires.second (rw (plain_count c.args.divisor.number c.requires.second) at c.raised-2.ensures.size)

pub over-requires-clause-nonzero : goal.over-requires-clause-nonzero
over-requires-clause-nonzero c =
    some_raised (word c.args.divisor.number) c.raised-2.result.number (c.args.point + c.args.divisor.point) c.max-high.result c.raised-2.ensures.number (rw (plain_count c.args.divisor.number c.requires.second) c.requires.nonzero)

pub returns : goal.returns
returns c =
    c.over.ensures ∙ ap₂ int_div (c.raised.ensures.number ∙ ap (raised c.args.dividend.number c.args.dividend.point) c.max-high.ensures) (c.raised-2.ensures.number ∙ ap₂ (λ n h. raised n (c.args.point + c.args.divisor.point) h) (plain_count c.args.divisor.number c.requires.second) c.max-high.ensures)
