use Rattle.mfx_scaled.proofs.Sizes.{wide_product}
use Rattle.mfx_scaled.proofs.counts.Count.times.Goals as goal

pub overflow_mul-result : goal.overflow_mul-result
overflow_mul-result c = (wide_product c.args.self.number c.args.other.number c.from.result c.from-2.result c.requires.first c.requires.second c.from.ensures c.from-2.ensures).fits

pub returns-clause-number : goal.returns-clause-number
returns-clause-number c = (wide_product c.args.self.number c.args.other.number c.from.result c.from-2.result c.requires.first c.requires.second c.from.ensures c.from-2.ensures).value

pub returns-clause-size : goal.returns-clause-size
returns-clause-size c = (wide_product c.args.self.number c.args.other.number c.from.result c.from-2.result c.requires.first c.requires.second c.from.ensures c.from-2.ensures).size
