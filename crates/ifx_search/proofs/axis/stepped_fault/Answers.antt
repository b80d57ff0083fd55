use Rattle.std.proofs.Common.{◌≡◌, ◌≤◌, ◌-◌, None, Some, arith, of_z, pos, refl, to_z, w64}
use Rattle.std.proofs.lemmas.Int.{fits_signed_from_abs, to_z-of_z}
use Rattle.fx_fraction.proofs.WholeNumbers.{int_le-false, int_le-true}
use Rattle.ifx_search.specs.Axes.{first_place, grid_points, is_not_above}
use Rattle.ifx_search.proofs.Faults.{by_places, few_points, flat_steps, many_points, rising_steps}
use Rattle.ifx_search.proofs.Points.{length-stepped_points}
use Rattle.ifx_search.proofs.axis.stepped_fault.Goals as goal

pub returns-then-grid-lt2 : goal.returns-then-grid-lt2
returns-then-grid-lt2 c =
    let grid = c.args.grid.now in
    few_points c.args.ty (grid_points grid) grid.count (length-stepped_points grid.offset grid.step grid.count) c.if-grid-lt2.true

pub returns-then-grid-gt4096 : goal.returns-then-grid-gt4096
returns-then-grid-gt4096 c =
    let grid = c.args.grid.now in
    many_points c.args.ty (grid_points grid) grid.count (length-stepped_points grid.offset grid.step grid.count) c.if-grid-gt4096.true

pub returns-in-Some : goal.returns-in-Some
returns-in-Some c =
    let grid = c.args.grid.now in
    by_places c.args.ty (grid_points grid) grid.count (length-stepped_points grid.offset grid.step grid.count)
    (omega (arith, c.if-grid-lt2.false)) (omega (arith, c.if-grid-gt4096.false))
    (Some c.in-Some.place) (first_place (is_not_above (grid_points grid)) 1 (grid.count - 1)) c.in-Some.ensures refl

pub returns-then-grid-le0 : goal.returns-then-grid-le0
returns-then-grid-le0 c =
    let grid = c.args.grid.now in
    let step : to_z w64 (of_z w64 grid.step) ≡ grid.step = to_z-of_z w64 grid.step (fits_signed_from_abs w64 grid.step (omega (arith, c.requires.small.1))) in
    let some : 2 ≤ grid.count = omega (arith, c.if-grid-lt2.false) in
    by_places c.args.ty (grid_points grid) grid.count (length-stepped_points grid.offset grid.step grid.count)
    some (omega (arith, c.if-grid-gt4096.false))
    None (Some 1) c.in_default.ensures (flat_steps grid.offset grid.step grid.count some (int_le-true grid.step (pos 0) (rw step at c.if-grid-le0.true)))

pub returns : goal.returns
returns c =
    let grid = c.args.grid.now in
    let step : to_z w64 (of_z w64 grid.step) ≡ grid.step = to_z-of_z w64 grid.step (fits_signed_from_abs w64 grid.step (omega (arith, c.requires.small.1))) in
    by_places c.args.ty (grid_points grid) grid.count (length-stepped_points grid.offset grid.step grid.count)
    (omega (arith, c.if-grid-lt2.false)) (omega (arith, c.if-grid-gt4096.false))
    None None c.in_default.ensures (rising_steps grid.offset grid.step grid.count (int_le-false grid.step (pos 0) (rw step at c.if-grid-le0.false)))
