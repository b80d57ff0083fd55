use Rattle.std.proofs.Common.{◌∙◌, rules}
use Rattle.efx_filters.proofs.Reductions.{is_next_state}
use Rattle.efx_filters.proofs.lags.next_state.Goals as goal

pub returns-clause-value : goal.returns-clause-value
returns-clause-value c = (search rules) ∙ is_next_state c.args.teq c.args.k c.args.y c.args.drive
