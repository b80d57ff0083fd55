use Rattle.std.proofs.Common.{sym, ◌∙◌}
use Rattle.bfx_bits.proofs.BitFacts.{is_below, set_ones}
use Rattle.bfx_bits.proofs.patterns.filled.Goals as goal

pub returns-then-status : goal.returns-then-status
returns-then-status c = λ j h. set_ones 32 j ∙ is_below j 32 h ∙ sym c.if-status.true
