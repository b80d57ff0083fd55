use Rattle.std.proofs.Common.{◌∙◌, sym}
use Rattle.efx_rules.proofs.FilterValues.{nearest, value-whole}
use Rattle.efx_rules.proofs.filter_values.value_at.Goals as goal

pub returns : goal.returns
unfolding nearest
returns c = c.nearest.ensures ∙ sym (value-whole (λ p. c.args.y.number))
