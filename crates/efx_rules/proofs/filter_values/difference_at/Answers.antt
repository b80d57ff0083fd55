use Rattle.std.proofs.Common.{◌∙◌, ap, sym}
use Rattle.fx_core.specs.Arguments.{two, three}
use Rattle.efx_rules.specs.FilterRules.{lag_rounded}
use Rattle.efx_rules.proofs.FilterValues.{difference_is_lag}
use Rattle.efx_rules.proofs.filter_values.difference_at.Goals as goal

pub returns : goal.returns
returns c =
    c.lag_at.ensures ∙ ap (λ d. lag_rounded c.args.lag.teq c.args.lag.k (two c.args.y.number d)) c.minus.ensures.value ∙ sym (difference_is_lag c.args.lag.teq c.args.lag.k (three c.args.y.number c.args.newer.number c.args.older.number))
