use Rattle.std.proofs.Common.{arith}
use Rattle.efx_filters.proofs.Products.{wide_product}
use Rattle.efx_filters.proofs.lags.product.Goals as goal

pub overflow_mul-result : goal.overflow_mul-result
overflow_mul-result c = (wide_product c.args.a c.args.b c.from.result c.from-2.result c.requires.first c.requires.second c.from.ensures c.from-2.ensures).fits

pub returns-clause-value : goal.returns-clause-value
returns-clause-value c = (wide_product c.args.a c.args.b c.from.result c.from-2.result c.requires.first c.requires.second c.from.ensures c.from-2.ensures).value

pub returns-clause-size : goal.returns-clause-size
returns-clause-size c =
    let known = (wide_product c.args.a c.args.b c.from.result c.from-2.result c.requires.first c.requires.second c.from.ensures c.from-2.ensures).size in
    omega (arith, known)
