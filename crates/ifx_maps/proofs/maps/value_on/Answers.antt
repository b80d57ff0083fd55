use Rattle.std.proofs.Common.{◌∙◌, ap, ap₂, sym}
use Rattle.std.specs.Int.{w64}
use Rattle.std.proofs.lemmas.Int.{to_z-of_z}
use Rattle.ifx_maps.specs.Maps.{map_at}
use Rattle.ifx_maps.specs.Surfaces.{map_value}
use Rattle.ifx_maps.proofs.SurfacePoints.{interpolates, looks_up, looks_up_base}
use Rattle.ifx_maps.proofs.maps.value_on.Goals as goal

pub returns-in-Ipo-clause-value : goal.returns-in-Ipo-clause-value
returns-in-Ipo-clause-value c tx ty at_x at_y =
    let m = c.args.m.now in
    let x = c.args.x.now in
    let y = c.args.y.now in
    to_z-of_z w64 c.between.result (record { sfits = c.between.type_inv })
    ∙ c.between.ensures.value
    ∙ interpolates m x.segment x.span x.way y.segment y.span y.way tx ty c.requires.column c.requires.line x.end y.end at_x at_y
    ∙ ap (λ op. map_value op m tx ty) (sym c.in-Ipo.is)

pub returns-in-LkUp-clause-value : goal.returns-in-LkUp-clause-value
returns-in-LkUp-clause-value c tx ty at_x at_y =
    let m = c.args.m.now in
    let x = c.args.x.now in
    let y = c.args.y.now in
    to_z-of_z w64 c.value.result (record { sfits = c.value.type_inv })
    ∙ c.value.ensures.value
    ∙ ap₂ (map_at m) c.nearer_point.ensures c.nearer_point-in-LkUp.ensures
    ∙ looks_up m x.segment x.span x.way y.segment y.span y.way tx ty x.end y.end at_x at_y
    ∙ ap (λ op. map_value op m tx ty) (sym c.in-LkUp.is)

pub returns-in-LkUpBase-clause-value : goal.returns-in-LkUpBase-clause-value
returns-in-LkUpBase-clause-value c tx ty at_x at_y =
    let m = c.args.m.now in
    let x = c.args.x.now in
    let y = c.args.y.now in
    to_z-of_z w64 c.value-in-LkUpBase.result (record { sfits = c.value-in-LkUpBase.type_inv })
    ∙ c.value-in-LkUpBase.ensures.value
    ∙ ap₂ (map_at m) c.lower_point.ensures c.lower_point-in-LkUpBase.ensures
    ∙ looks_up_base m x.segment x.span x.way y.segment y.span y.way tx ty x.end y.end at_x at_y
    ∙ ap (λ op. map_value op m tx ty) (sym c.in-LkUpBase.is)
