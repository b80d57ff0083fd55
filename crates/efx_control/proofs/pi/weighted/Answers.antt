use Rattle.efx_control.proofs.Sums.{weighted_step}
use Rattle.efx_control.proofs.pi.weighted.Goals as goal

pub overflow_mul-result : goal.overflow_mul-result
overflow_mul-result c = (weighted_step c.args.number c.args.weight c.from.result c.from-2.result c.requires.number c.requires.weight c.from.ensures c.from-2.ensures).fits

pub returns-clause-value : goal.returns-clause-value
returns-clause-value c = (weighted_step c.args.number c.args.weight c.from.result c.from-2.result c.requires.number c.requires.weight c.from.ensures c.from-2.ensures).value

pub returns-clause-size : goal.returns-clause-size
returns-clause-size c = (weighted_step c.args.number c.args.weight c.from.result c.from-2.result c.requires.number c.requires.weight c.from.ensures c.from-2.ensures).size
