use Rattle.std.proofs.Common.{◌∙◌, rules}
use Rattle.efx_control.proofs.Reductions.{is_ramp_state}
use Rattle.efx_control.proofs.ramp.next_state.Goals as goal

pub returns-clause-value : goal.returns-clause-value
returns-clause-value c = (search rules) ∙ is_ramp_state c.args.up c.args.down c.args.y c.args.x
