use Rattle.efx_filters.proofs.Shifts.{shift_word_64}
use Rattle.efx_filters.proofs.rounding.unscaled.Goals as goal

pub returns : goal.returns
returns c = shift_word_64 c.args.n c.requires
