use Rattle.std.proofs.Common.{rules}
use Rattle.efx_filters.proofs.Products.{weight_product}
use Rattle.efx_filters.proofs.lags.weight.Goals as goal

pub overflow_mul-result : goal.overflow_mul-result
overflow_mul-result c = (weight_product c.args.rest c.args.k c.from.result c.from-2.result c.requires (search rules) (search rules) (search rules)).fits

pub returns-clause-value : goal.returns-clause-value
returns-clause-value c = (weight_product c.args.rest c.args.k c.from.result c.from-2.result c.requires (search rules) (search rules) (search rules)).value

pub returns-clause-size : goal.returns-clause-size
returns-clause-size c = (weight_product c.args.rest c.args.k c.from.result c.from-2.result c.requires (search rules) (search rules) (search rules)).size
