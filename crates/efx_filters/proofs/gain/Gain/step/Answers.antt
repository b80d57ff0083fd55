use Rattle.std.proofs.Common.{◌∙◌, rules}
use Rattle.efx_filters.proofs.Reductions.{is_gain}
use Rattle.efx_filters.proofs.gain.Gain.step.Goals as goal

pub returns-clause-value : goal.returns-clause-value
returns-clause-value c = (search rules) ∙ is_gain c.args.self.now c.args.x
