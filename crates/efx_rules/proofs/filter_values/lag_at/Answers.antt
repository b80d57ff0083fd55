use Rattle.std.proofs.Common.{◌∙◌, ap, ap₂, sym, ◌+ℤ◌, ◌*ℤ◌}
use Rattle.fx_core.specs.Arguments.{two}
use Rattle.efx_rules.proofs.FilterValues.{nearest, weighted, lag-whole}
use Rattle.efx_rules.proofs.filter_values.lag_at.Goals as goal

pub returns : goal.returns
unfolding nearest weighted
returns c =
    let y = c.args.y.number in
    let x = c.args.x.number in
    c.nearest.ensures ∙ ap nearest (c.sum.ensures ∙ ap₂ (λ s t. s +ℤ t) (c.product.ensures.value ∙ ap (λ w. y *ℤ w) c.old_weight.ensures.value) (c.product-2.ensures.value ∙ ap (λ w. x *ℤ w) c.drive_weight.ensures.value)) ∙ sym (lag-whole c.args.lag.teq c.args.lag.k (two y x))
