use Rattle.std.proofs.Common.{◌∙◌, ap, sym}
use Rattle.std.specs.Int.{w64}
use Rattle.std.proofs.lemmas.Int.{to_z-of_z}
use Rattle.ifx_curves.specs.Curves.{curve_value}
use Rattle.ifx_curves.specs.Tables.{value_at}
use Rattle.ifx_curves.proofs.CurvePoints.{interpolates, looks_up}
use Rattle.ifx_curves.proofs.curves.value_on.Goals as goal

pub returns-in-Ipo-clause-value : goal.returns-in-Ipo-clause-value
returns-in-Ipo-clause-value c t at =
    let s = c.args.stretch.now in
    to_z-of_z w64 c.between.result (record { sfits = c.between.type_inv })
    ∙ c.between.ensures.value
    ∙ interpolates c.args.table.now.values s.segment s.span s.way t c.requires.bound s.end at
    ∙ ap (λ op. curve_value op c.args.table.now.values t) (sym c.in-Ipo.is)

pub returns-in-LkUp-clause-value : goal.returns-in-LkUp-clause-value
returns-in-LkUp-clause-value c t at =
    let s = c.args.stretch.now in
    to_z-of_z w64 c.value.result (record { sfits = c.value.type_inv })
    ∙ c.value.ensures.value
    ∙ ap (value_at c.args.table.now.values) c.nearer_point.ensures
    ∙ looks_up c.args.table.now.values s.segment s.span s.way t s.end at
    ∙ ap (λ op. curve_value op c.args.table.now.values t) (sym c.in-LkUp.is)
