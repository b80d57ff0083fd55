use Rattle.std.proofs.Common.{◌∙◌, ap, rules, ◌+ℤ◌}
use Rattle.std.specs.Int.{w32, w128}
use Rattle.std.proofs.lemmas.Int.{to_z-of_z}
use Rattle.fx_core.specs.Arguments.{three}
use Rattle.part_rules.specs.Ranges.{corner_values, ends_of, greatest_among, least_among}
use Rattle.efx_rules.specs.FilterRules.{difference_bounds, difference_rounded, lag_error}
use Rattle.efx_rules.specs.StateEntries.{if_state}
use Rattle.efx_rules.proofs.BoundsFields.{same_bounds}
use Rattle.efx_rules.proofs.narrowing.difference_bounds.Goals as goal

pub returns : goal.returns
unfolding difference_bounds
returns c =
    let gain = to_z-of_z w32 c.args.k c.ranges.k in
    let low = to_z-of_z w128 c.difference_range-range.result.lo (search rules) ∙ c.difference_range-range.ensures.lo ∙ ap (λ k. least_among (corner_values (difference_rounded c.args.teq k) (ends_of 3 (three c.args.y c.args.newer c.args.older)))) gain in
    let high = to_z-of_z w128 c.difference_range-range.result.hi (search rules) ∙ c.difference_range-range.ensures.hi ∙ ap (λ k. greatest_among (corner_values (difference_rounded c.args.teq k) (ends_of 3 (three c.args.y c.args.newer c.args.older)))) gain in
    let error = to_z-of_z w128 c.difference_error.result (record { sfits = c.difference_error.type_inv }) ∙ c.difference_error.ensures ∙ ap (λ k. lag_error c.args.teq k c.args.y.err (c.args.newer.err +ℤ c.args.older.err)) gain in
    c.narrowed_state.ensures ∙ ap if_state (same_bounds _ _ _ (difference_bounds c.args.teq c.args.k (three c.args.y c.args.newer c.args.older)) low high error)
