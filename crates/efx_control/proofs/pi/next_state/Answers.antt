use Rattle.std.proofs.Common.{◌∙◌, rules}
use Rattle.efx_control.proofs.Reductions.{is_pi_state}
use Rattle.efx_control.proofs.pi.next_state.Goals as goal

pub returns-clause-value : goal.returns-clause-value
returns-clause-value c = (search rules) ∙ is_pi_state c.args.second c.args.k c.args.r c.args.y c.args.x c.args.x1
