use Rattle.std.proofs.Common.{rules}
use Rattle.efx_filters.proofs.Shifts.{shift_word_128}
use Rattle.efx_filters.proofs.rounding.unscaled_wide.Goals as goal

pub returns : goal.returns
returns c = shift_word_128 c.args.n c.from.result (search rules) c.requires
