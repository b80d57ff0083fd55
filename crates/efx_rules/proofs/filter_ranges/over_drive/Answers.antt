use Rattle.std.proofs.Common.{◌∙◌, ap, ap₂}
use Rattle.std.specs.Int.{int_max, int_min}
use Rattle.fx_core.specs.Arguments.{two}
use Rattle.efx_rules.specs.FilterRules.{lag_rounded}
use Rattle.efx_rules.proofs.filter_ranges.over_drive.Goals as goal

pub returns-clause-lo : goal.returns-clause-lo
returns-clause-lo c =
    c.joined.ensures.lo ∙ ap₂ int_min (c.at-low.ensures.lo ∙ c.lag_at.ensures ∙ ap (λ n. lag_rounded c.args.lag.teq c.args.lag.k (two c.args.y.number n)) c.low_end.ensures.value) (c.at-high.ensures.lo ∙ c.lag_at-2.ensures ∙ ap (λ n. lag_rounded c.args.lag.teq c.args.lag.k (two c.args.y.number n)) c.high_end.ensures.value)

pub returns-clause-hi : goal.returns-clause-hi
returns-clause-hi c =
    c.joined.ensures.hi ∙ ap₂ int_max (c.at-low.ensures.hi ∙ c.lag_at.ensures ∙ ap (λ n. lag_rounded c.args.lag.teq c.args.lag.k (two c.args.y.number n)) c.low_end.ensures.value) (c.at-high.ensures.hi ∙ c.lag_at-2.ensures ∙ ap (λ n. lag_rounded c.args.lag.teq c.args.lag.k (two c.args.y.number n)) c.high_end.ensures.value)
