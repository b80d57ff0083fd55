use Rattle.std.proofs.Common.{◌∙◌, ap, ap₂}
use Rattle.std.specs.Int.{int_max, int_min}
use Rattle.fx_core.specs.Arguments.{three}
use Rattle.efx_rules.specs.FilterRules.{difference_rounded}
use Rattle.efx_rules.proofs.filter_ranges.over_older.Goals as goal

pub returns-clause-lo : goal.returns-clause-lo
returns-clause-lo c =
    c.joined.ensures.lo ∙ ap₂ int_min (c.at-low.ensures.lo ∙ c.difference_at.ensures ∙ ap (λ n. difference_rounded c.args.lag.teq c.args.lag.k (three c.args.y.number c.args.newer.number n)) c.low_end.ensures.value) (c.at-high.ensures.lo ∙ c.difference_at-2.ensures ∙ ap (λ n. difference_rounded c.args.lag.teq c.args.lag.k (three c.args.y.number c.args.newer.number n)) c.high_end.ensures.value)

pub returns-clause-hi : goal.returns-clause-hi
returns-clause-hi c =
    c.joined.ensures.hi ∙ ap₂ int_max (c.at-low.ensures.hi ∙ c.difference_at.ensures ∙ ap (λ n. difference_rounded c.args.lag.teq c.args.lag.k (three c.args.y.number c.args.newer.number n)) c.low_end.ensures.value) (c.at-high.ensures.hi ∙ c.difference_at-2.ensures ∙ ap (λ n. difference_rounded c.args.lag.teq c.args.lag.k (three c.args.y.number c.args.newer.number n)) c.high_end.ensures.value)
