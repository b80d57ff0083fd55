use Rattle.std.proofs.Common.{◌∙◌, ap, ap₂}
use Rattle.std.specs.Int.{int_max, int_min}
use Rattle.part_rules.specs.Ranges.{greatest_among, least_among}
use Rattle.efx_rules.specs.FilterCorners.{states_over_older}
use Rattle.efx_rules.proofs.FilterCornerHulls.{greatest_over_inputs, least_over_inputs}
use Rattle.efx_rules.proofs.filter_ranges.over_inputs.Goals as goal

pub returns-clause-lo : goal.returns-clause-lo
returns-clause-lo c =
    c.joined.ensures.lo ∙ ap₂ int_min (c.over_older-low.ensures.lo ∙ ap (λ n. least_among (states_over_older c.args.lag.teq c.args.lag.k c.args.y.number n c.args.older)) c.low_end.ensures.value) (c.over_older-high.ensures.lo ∙ ap (λ n. least_among (states_over_older c.args.lag.teq c.args.lag.k c.args.y.number n c.args.older)) c.high_end.ensures.value) ∙ least_over_inputs c.args.lag.teq c.args.lag.k c.args.y.number c.args.newer c.args.older

pub returns-clause-hi : goal.returns-clause-hi
returns-clause-hi c =
    c.joined.ensures.hi ∙ ap₂ int_max (c.over_older-low.ensures.hi ∙ ap (λ n. greatest_among (states_over_older c.args.lag.teq c.args.lag.k c.args.y.number n c.args.older)) c.low_end.ensures.value) (c.over_older-high.ensures.hi ∙ ap (λ n. greatest_among (states_over_older c.args.lag.teq c.args.lag.k c.args.y.number n c.args.older)) c.high_end.ensures.value) ∙ greatest_over_inputs c.args.lag.teq c.args.lag.k c.args.y.number c.args.newer c.args.older
