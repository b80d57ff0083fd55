use Rattle.std.proofs.Common.{◌∙◌, ap, sym, ◌*ℤ◌}
use Rattle.std.specs.Int.{w32}
use Rattle.std.proofs.lemmas.Int.{to_z-of_z}
use Rattle.efx_rules.proofs.FilterValues.{nearest, gain-whole}
use Rattle.efx_rules.proofs.filter_values.gain_at.Goals as goal

pub returns : goal.returns
unfolding nearest
returns c =
    c.nearest.ensures ∙ ap nearest (c.product.ensures.value ∙ ap (λ w. c.args.x.number *ℤ w) (c.gain_weight.ensures.value ∙ to_z-of_z w32 c.args.k c.ranges.k)) ∙ sym (gain-whole c.args.k (λ p. c.args.x.number))
