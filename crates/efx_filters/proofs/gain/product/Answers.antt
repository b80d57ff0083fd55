use Rattle.std.proofs.Common.{rules}
use Rattle.efx_filters.proofs.Products.{gain_product}
use Rattle.efx_filters.proofs.gain.product.Goals as goal

pub overflow_mul-result : goal.overflow_mul-result
overflow_mul-result c = (gain_product c.args.x c.args.k c.from.result c.requires (search rules) (search rules)).fits

pub returns-clause-value : goal.returns-clause-value
returns-clause-value c = (gain_product c.args.x c.args.k c.from.result c.requires (search rules) (search rules)).value

pub returns-clause-size : goal.returns-clause-size
returns-clause-size c = (gain_product c.args.x c.args.k c.from.result c.requires (search rules) (search rules)).size
