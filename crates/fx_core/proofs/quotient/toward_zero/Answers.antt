use Rattle.fx_core.proofs.Words.{quotient_word}
use Rattle.fx_core.proofs.quotient.toward_zero.Goals as goal

pub returns : goal.returns
returns c = quotient_word c.args.n c.args.d c.requires c.ranges.n c.ranges.d
