use Rattle.std.proofs.Common.{◌≡◌, ◌∙◌, ◌+◌, ◌*◌, ap, ap₂, sym, subst, arith}
use Rattle.std.specs.Int.{w64}
use Rattle.std.proofs.Math.Nat.{mul-pos}
use Rattle.std.proofs.lemmas.Int.{to_z-of_z}
use Rattle.fx_core.specs.Types.{Holds}
use Rattle.ifx_curves.specs.Stretches.{weighted_sum}
use Rattle.ifx_curves.proofs.Means.{floor_held, floor_word, mean_over, word}
use Rattle.ifx_maps.specs.Surfaces.{column_sum}
use Rattle.ifx_maps.proofs.maps.between.Goals as goal

pub returns-clause-value : goal.returns-clause-value
returns-clause-value c =
    let m = c.args.m.now in
    let x = c.args.x.now in
    let y = c.args.y.now in
    let low = to_z-of_z w64 c.along_column-low.result (record { sfits = c.along_column-low.type_inv }) ∙ c.along_column-low.ensures.value in
    let high : word c.along_column-high.result ≡ column_sum m (x.segment + 1) y = to_z-of_z w64 c.along_column-high.result (record { sfits = c.along_column-high.type_inv }) ∙ c.along_column-high.ensures.value in
    let sum = to_z-of_z w64 c.weighted-sum.result (record { sfits = c.weighted-sum.type_inv }) ∙ c.weighted-sum.ensures ∙ ap₂ (weighted_sum x) low (high ∙ ap (λ ix. column_sum m ix y) (omega arith)) in
    let weights = to_z-of_z w64 c.sum_of_weights.result (record { sfits = c.sum_of_weights.type_inv }) ∙ c.sum_of_weights.ensures.weights in
    floor_word c.weighted-sum.result c.sum_of_weights.result _ c.div_euclid.result (y.span * x.span) sum weights (record { sfits = c.div_euclid.type_inv }) c.div_euclid.ensures

pub returns-clause-held : goal.returns-clause-held
returns-clause-held c =
    let ty = c.args.m.now.ty in
    let x = c.args.x.now in
    let y = c.args.y.now in
    let low = to_z-of_z w64 c.along_column-low.result (record { sfits = c.along_column-low.type_inv }) in
    let high = to_z-of_z w64 c.along_column-high.result (record { sfits = c.along_column-high.type_inv }) in
    let sum = to_z-of_z w64 c.weighted-sum.result (record { sfits = c.weighted-sum.type_inv }) ∙ c.weighted-sum.ensures ∙ ap₂ (weighted_sum x) low high in
    let weights = to_z-of_z w64 c.sum_of_weights.result (record { sfits = c.sum_of_weights.type_inv }) ∙ c.sum_of_weights.ensures.weights in
    let result = floor_word c.weighted-sum.result c.sum_of_weights.result _ c.div_euclid.result (y.span * x.span) sum weights (record { sfits = c.div_euclid.type_inv }) c.div_euclid.ensures in
    let mean = mean_over ty y.span x.span x.way c.along_column-low.result c.along_column-high.result x.end c.along_column-low.ensures.held c.along_column-high.ensures.held in
    subst (Holds ty) (sym result) (floor_held ty (y.span * x.span) _ (mul-pos y.some x.some) mean)
