use Rattle.bfx_bits.proofs.BitFacts.{none_right}
use Rattle.bfx_bits.proofs.patterns.shifted_right.Goals as goal

pub returns-else-places-lt32 : goal.returns-else-places-lt32
returns-else-places-lt32 c = none_right c.args.pattern c.args.places c.ranges.pattern.fits c.if-places-lt32.false
