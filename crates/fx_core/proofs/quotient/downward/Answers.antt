use Rattle.std.proofs.Common.{rules}
use Rattle.fx_core.proofs.Words.{downward_word}
use Rattle.fx_core.proofs.quotient.downward.Goals as goal

pub returns : goal.returns
returns c = downward_word c.args.n c.args.d c.div_euclid.result c.requires c.ranges.n c.ranges.d (search rules) c.div_euclid.ensures
