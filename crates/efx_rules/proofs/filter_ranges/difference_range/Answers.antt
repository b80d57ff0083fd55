use Rattle.std.proofs.Common.{◌∙◌, ap, ap₂}
use Rattle.std.specs.Int.{int_max, int_min}
use Rattle.part_rules.specs.Ranges.{greatest_among, least_among}
use Rattle.efx_rules.specs.FilterCorners.{states_over_inputs}
use Rattle.efx_rules.proofs.FilterCornerHulls.{greatest_over_difference, least_over_difference}
use Rattle.efx_rules.proofs.filter_ranges.difference_range.Goals as goal

pub returns-clause-lo : goal.returns-clause-lo
returns-clause-lo c =
    c.joined.ensures.lo ∙ ap₂ int_min (c.over_inputs-low.ensures.lo ∙ ap (λ n. least_among (states_over_inputs c.args.lag.teq c.args.lag.k n c.args.newer c.args.older)) c.least_state.ensures.value) (c.over_inputs-high.ensures.lo ∙ ap (λ n. least_among (states_over_inputs c.args.lag.teq c.args.lag.k n c.args.newer c.args.older)) c.greatest_state.ensures.value) ∙ least_over_difference c.args.lag.teq c.args.lag.k c.args.y c.args.newer c.args.older

pub returns-clause-hi : goal.returns-clause-hi
returns-clause-hi c =
    c.joined.ensures.hi ∙ ap₂ int_max (c.over_inputs-low.ensures.hi ∙ ap (λ n. greatest_among (states_over_inputs c.args.lag.teq c.args.lag.k n c.args.newer c.args.older)) c.least_state.ensures.value) (c.over_inputs-high.ensures.hi ∙ ap (λ n. greatest_among (states_over_inputs c.args.lag.teq c.args.lag.k n c.args.newer c.args.older)) c.greatest_state.ensures.value) ∙ greatest_over_difference c.args.lag.teq c.args.lag.k c.args.y c.args.newer c.args.older
