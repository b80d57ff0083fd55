use Rattle.std.proofs.Common.{◌∙◌, ap, ap₂, sym, arith}
use Rattle.std.specs.Int.{w32, w64, w128}
use Rattle.std.proofs.lemmas.Int.{ints, to_z-of_z}
use borrow.Author.Differences.{fits_in}
use Rattle.fx_core.specs.declared.quotient.Mode.TheVariants.{Zero}
use Rattle.fx_core.specs.Rounding.{shifted_rounded}
use Rattle.fx_core.specs.Types.{saturated}
use Rattle.mfx_scaled.proofs.Steps.{count_in-shifted}
use Rattle.mfx_scaled.proofs.counts.Product.stored.Goals as goal

pub returns : goal.returns
returns c =
    let size = c.requires.size in
    let number = to_z-of_z w128 c.args.self.number (fits_in w128 c.args.self.number (omega (arith, ints, size))) in
    let places = to_z-of_z w32 c.distance.result (record { sfits = c.distance.type_inv }) ∙ c.distance.ensures in
    to_z-of_z w64 c.sat.result (record { sfits = c.sat.type_inv }) ∙ c.sat.ensures
    ∙ ap (saturated c.args.t) (to_z-of_z w128 c.shift_round-rounded.result (record { sfits = c.shift_round-rounded.type_inv }) ∙ c.shift_round-rounded.ensures.value ∙ ap₂ (λ n e. shifted_rounded Zero n e) number places)
    ∙ sym (count_in-shifted c.args.t c.args.self.number c.args.self.point c.args.point)
