use Rattle.std.proofs.Common.{◌∙◌, ap, rules}
use Rattle.std.specs.Int.{w32, w128}
use Rattle.std.proofs.lemmas.Int.{to_z-of_z}
use Rattle.fx_core.specs.Arguments.{two}
use Rattle.part_rules.specs.Ranges.{corner_values, ends_of, greatest_among, least_among}
use Rattle.efx_rules.specs.FilterRules.{lag_bounds, lag_error, lag_rounded}
use Rattle.efx_rules.specs.StateEntries.{if_state}
use Rattle.efx_rules.proofs.BoundsFields.{same_bounds}
use Rattle.efx_rules.proofs.narrowing.lag_bounds.Goals as goal

pub returns : goal.returns
unfolding lag_bounds
returns c =
    let gain = to_z-of_z w32 c.args.k c.ranges.k in
    let low = to_z-of_z w128 c.lag_range-range.result.lo (search rules) ∙ c.lag_range-range.ensures.lo ∙ ap (λ k. least_among (corner_values (lag_rounded c.args.teq k) (ends_of 2 (two c.args.y c.args.x1)))) gain in
    let high = to_z-of_z w128 c.lag_range-range.result.hi (search rules) ∙ c.lag_range-range.ensures.hi ∙ ap (λ k. greatest_among (corner_values (lag_rounded c.args.teq k) (ends_of 2 (two c.args.y c.args.x1)))) gain in
    let error = to_z-of_z w128 c.lag_error.result (record { sfits = c.lag_error.type_inv }) ∙ c.lag_error.ensures ∙ ap (λ k. lag_error c.args.teq k c.args.y.err c.args.x1.err) gain in
    c.narrowed_state.ensures ∙ ap if_state (same_bounds _ _ _ (lag_bounds c.args.teq c.args.k (two c.args.y c.args.x1)) low high error)
