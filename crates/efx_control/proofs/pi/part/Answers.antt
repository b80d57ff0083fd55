use Rattle.std.proofs.Common.{arith, rules}
use Rattle.efx_control.proofs.Sums.{part_step}
use Rattle.efx_control.proofs.pi.part.Goals as goal

pub overflow_mul-result : goal.overflow_mul-result
overflow_mul-result c = (part_step c.args.share c.args.k c.from.result c.from-2.result c.requires (search rules) (search rules) (search rules)).fits

pub returns-clause-value : goal.returns-clause-value
returns-clause-value c = (part_step c.args.share c.args.k c.from.result c.from-2.result c.requires (search rules) (search rules) (search rules)).value

pub returns-clause-size : goal.returns-clause-size
returns-clause-size c =
    let size = (part_step c.args.share c.args.k c.from.result c.from-2.result c.requires (search rules) (search rules) (search rules)).size in
    omega (arith, size)
