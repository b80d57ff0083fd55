use Rattle.bfx_bits.proofs.BitFacts.{bits_left}
use Rattle.bfx_bits.proofs.patterns.shifted_left.Goals as goal

pub returns-then-places-lt32 : goal.returns-then-places-lt32
returns-then-places-lt32 c = bits_left c.args.pattern c.args.places
