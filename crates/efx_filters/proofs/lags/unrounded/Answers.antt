use Rattle.std.proofs.Common.{◌≡◌, ◌∙◌, ◌+ℤ◌, ◌*ℤ◌, ◌^◌, ap₂, lit≤, pos, rules}
use mir.Syntax.{w128}
use Rattle.fx_core.proofs.WordSteps.{sum_step}
use Rattle.efx_filters.specs.Formulas.{drive_weight}
use Rattle.efx_filters.proofs.lags.unrounded.Goals as goal

pub overflow_add-result : goal.overflow_add-result
overflow_add-result c = (sum_step w128 c.product.result c.product-2.result (2 ^ 95) (2 ^ 95) c.product.ensures.size c.product-2.ensures.size (lit≤ tt)).fits

pub returns-clause-value : goal.returns-clause-value
returns-clause-value c =
    let kept : c.product.result ≡ c.args.y *ℤ pos c.args.teq = search rules in
    let driven : c.product-2.result ≡ c.args.drive *ℤ drive_weight c.args.teq c.args.k = search rules in
    (sum_step w128 c.product.result c.product-2.result (2 ^ 95) (2 ^ 95) c.product.ensures.size c.product-2.ensures.size (lit≤ tt)).value
    ∙ ap₂ (λ s t. s +ℤ t) kept driven

pub returns-clause-size : goal.returns-clause-size
returns-clause-size c = (sum_step w128 c.product.result c.product-2.result (2 ^ 95) (2 ^ 95) c.product.ensures.size c.product-2.ensures.size (lit≤ tt)).size
