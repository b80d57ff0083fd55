use Rattle.std.proofs.Common.{◌≡◌, ◌∙◌, ap, ap₂, sym, subst, arith, ◌+◌}
use Rattle.std.specs.Int.{w64}
use Rattle.std.proofs.lemmas.Int.{to_z-of_z}
use Rattle.fx_core.specs.Types.{Holds}
use Rattle.ifx_curves.specs.Stretches.{HoldsOver, weighted_sum}
use Rattle.ifx_curves.specs.Tables.{value_at}
use Rattle.ifx_curves.proofs.Means.{floor_held, floor_word, holds_over_one, mean_over, word}
use Rattle.ifx_curves.proofs.curves.between.Goals as goal

pub returns-clause-value : goal.returns-clause-value
returns-clause-value c =
    let values = c.args.table.now.values in
    let s = c.args.stretch.now in
    let low : word c.value-low.result ≡ value_at values s.segment = to_z-of_z w64 c.value-low.result (record { sfits = c.value-low.type_inv }) ∙ c.value-low.ensures.value in
    let high : word c.value-high.result ≡ value_at values (s.segment + 1) = to_z-of_z w64 c.value-high.result (record { sfits = c.value-high.type_inv }) ∙ c.value-high.ensures.value in
    let sum = to_z-of_z w64 c.weighted-sum.result (record { sfits = c.weighted-sum.type_inv }) ∙ c.weighted-sum.ensures ∙ ap₂ (weighted_sum s) low (high ∙ ap (value_at values) (omega arith)) in
    let span = to_z-of_z w64 c.from.result (record { sfits = c.from.type_inv }) ∙ c.from.ensures in
    floor_word c.weighted-sum.result c.from.result _ c.div_euclid.result s.span sum span (record { sfits = c.div_euclid.type_inv }) c.div_euclid.ensures

pub returns-clause-held : goal.returns-clause-held
returns-clause-held c =
    let s = c.args.stretch.now in
    let ty = c.args.table.now.ty in
    let low = to_z-of_z w64 c.value-low.result (record { sfits = c.value-low.type_inv }) in
    let high = to_z-of_z w64 c.value-high.result (record { sfits = c.value-high.type_inv }) in
    let sum = to_z-of_z w64 c.weighted-sum.result (record { sfits = c.weighted-sum.type_inv }) ∙ c.weighted-sum.ensures ∙ ap₂ (weighted_sum s) low high in
    let span = to_z-of_z w64 c.from.result (record { sfits = c.from.type_inv }) ∙ c.from.ensures in
    let result = floor_word c.weighted-sum.result c.from.result _ c.div_euclid.result s.span sum span (record { sfits = c.div_euclid.type_inv }) c.div_euclid.ensures in
    let mean = mean_over ty 1 s.span s.way c.value-low.result c.value-high.result s.end (holds_over_one ty _ c.value-low.ensures.held) (holds_over_one ty _ c.value-high.ensures.held) in
    subst (Holds ty) (sym result) (floor_held ty s.span _ s.some (subst (λ d. HoldsOver ty d (weighted_sum s c.value-low.result c.value-high.result)) (omega arith) mean))
