use Rattle.std.proofs.Common.{◌∙◌, rules}
use Rattle.efx_filters.proofs.Reductions.{is_state_value}
use Rattle.efx_filters.proofs.rounding.state_value.Goals as goal

pub returns : goal.returns
returns c = (search rules) ∙ is_state_value c.args.o c.args.y
