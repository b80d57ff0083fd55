use Rattle.efx_rules.proofs.WordSteps.{weighed_step}
use Rattle.efx_rules.proofs.filter_values.product.Goals as goal

pub overflow_mul-result : goal.overflow_mul-result
overflow_mul-result c = (weighed_step c.args.x.number c.args.weight.number c.requires.number c.requires.weight).fits

pub returns-clause-value : goal.returns-clause-value
returns-clause-value c = (weighed_step c.args.x.number c.args.weight.number c.requires.number c.requires.weight).value

pub returns-clause-size : goal.returns-clause-size
returns-clause-size c = (weighed_step c.args.x.number c.args.weight.number c.requires.number c.requires.weight).size
