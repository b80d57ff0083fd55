use Rattle.std.proofs.Common.{◌≡◌, ◌<◌, ◌≤◌, ◌^◌, ◌+◌, ◌-◌, ◌∙◌, ap, ap₂, sym, subst, arith, ℤ}
use Rattle.std.specs.Int.{w64}
use Rattle.std.specs.Prelude.{unsigned_abs}
use Rattle.std.proofs.lemmas.Int.{to_z-of_z}
use Rattle.ifx_curves.specs.Stretches.{HoldsOver, weighted_sum}
use Rattle.ifx_curves.proofs.Means.{holds_over_one, mean_over, word}
use Rattle.ifx_maps.specs.Maps.{map_at}
use Rattle.ifx_maps.proofs.WeightedValues.{sum_small}
use Rattle.ifx_maps.proofs.maps.along_column.Goals as goal

pub returns-clause-value : goal.returns-clause-value
returns-clause-value c =
    let m = c.args.m.now in
    let y = c.args.y.now in
    let low = to_z-of_z w64 c.value-low.result (record { sfits = c.value-low.type_inv }) ∙ c.value-low.ensures.value in
    let high : word c.value-high.result ≡ map_at m c.args.ix (y.segment + 1) = to_z-of_z w64 c.value-high.result (record { sfits = c.value-high.type_inv }) ∙ c.value-high.ensures.value in
    to_z-of_z w64 c.weighted.result (record { sfits = c.weighted.type_inv }) ∙ c.weighted.ensures ∙ ap₂ (weighted_sum y) low (high ∙ ap (map_at m c.args.ix) (omega arith))

pub returns-clause-held : goal.returns-clause-held
returns-clause-held c =
    let y = c.args.y.now in
    let ty = c.args.m.now.ty in
    let low = to_z-of_z w64 c.value-low.result (record { sfits = c.value-low.type_inv }) in
    let high = to_z-of_z w64 c.value-high.result (record { sfits = c.value-high.type_inv }) in
    let sum = to_z-of_z w64 c.weighted.result (record { sfits = c.weighted.type_inv }) ∙ c.weighted.ensures ∙ ap₂ (weighted_sum y) low high in
    let mean = mean_over ty 1 y.span y.way c.value-low.result c.value-high.result y.end (holds_over_one ty _ c.value-low.ensures.held) (holds_over_one ty _ c.value-high.ensures.held) in
    subst (HoldsOver ty y.span) (sym sum) (subst (λ d. HoldsOver ty d (weighted_sum y c.value-low.result c.value-high.result)) (omega arith) mean)

pub returns-clause-small : goal.returns-clause-small
returns-clause-small c =
    let y = c.args.y.now in
    let low = to_z-of_z w64 c.value-low.result (record { sfits = c.value-low.type_inv }) in
    let high = to_z-of_z w64 c.value-high.result (record { sfits = c.value-high.type_inv }) in
    let sum = to_z-of_z w64 c.weighted.result (record { sfits = c.weighted.type_inv }) ∙ c.weighted.ensures ∙ ap₂ (weighted_sum y) low high in
    let Small : ℤ → Type 0 = λ z. unsigned_abs z < 2 ^ 32 in
    let few : y.span - y.way + y.way ≤ 65536 = omega (arith, y.end, y.few) in
    subst Small (sym sum) (sum_small c.value-low.result c.value-high.result (y.span - y.way) y.way c.value-low.ensures.small c.value-high.ensures.small few)
