use Rattle.mfx_arith.proofs.WordProducts.{product_step}
use Rattle.mfx_arith.proofs.integers.Integer.times.Goals as goal

pub overflow_mul-result : goal.overflow_mul-result
overflow_mul-result c = (product_step c.args.self.number c.args.other.number c.requires.first c.requires.second).fits

pub returns-clause-value : goal.returns-clause-value
returns-clause-value c = (product_step c.args.self.number c.args.other.number c.requires.first c.requires.second).value

pub returns-clause-size : goal.returns-clause-size
returns-clause-size c = (product_step c.args.self.number c.args.other.number c.requires.first c.requires.second).size
