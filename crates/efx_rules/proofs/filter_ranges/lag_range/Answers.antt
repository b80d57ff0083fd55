use Rattle.std.proofs.Common.{◌∙◌, ap, ap₂}
use Rattle.std.specs.Int.{int_max, int_min}
use Rattle.part_rules.specs.Ranges.{greatest_among, least_among}
use Rattle.efx_rules.specs.FilterCorners.{states_over_drive}
use Rattle.efx_rules.proofs.FilterCornerHulls.{greatest_over_drive, least_over_drive}
use Rattle.efx_rules.proofs.filter_ranges.lag_range.Goals as goal

pub returns-clause-lo : goal.returns-clause-lo
returns-clause-lo c =
    c.joined.ensures.lo ∙ ap₂ int_min (c.over_drive-low.ensures.lo ∙ ap (λ n. least_among (states_over_drive c.args.lag.teq c.args.lag.k n c.args.x1)) c.least_state.ensures.value) (c.over_drive-high.ensures.lo ∙ ap (λ n. least_among (states_over_drive c.args.lag.teq c.args.lag.k n c.args.x1)) c.greatest_state.ensures.value) ∙ least_over_drive c.args.lag.teq c.args.lag.k c.args.y c.args.x1

pub returns-clause-hi : goal.returns-clause-hi
returns-clause-hi c =
    c.joined.ensures.hi ∙ ap₂ int_max (c.over_drive-low.ensures.hi ∙ ap (λ n. greatest_among (states_over_drive c.args.lag.teq c.args.lag.k n c.args.x1)) c.least_state.ensures.value) (c.over_drive-high.ensures.hi ∙ ap (λ n. greatest_among (states_over_drive c.args.lag.teq c.args.lag.k n c.args.x1)) c.greatest_state.ensures.value) ∙ greatest_over_drive c.args.lag.teq c.args.lag.k c.args.y c.args.x1
