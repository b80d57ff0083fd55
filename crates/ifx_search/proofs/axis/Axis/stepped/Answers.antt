use Rattle.std.proofs.Common.{◌≡◌, of_z, sym, to_z, w64}
use Rattle.std.proofs.lemmas.Int.{to_z-of_z}
use Rattle.ifx_search.proofs.Faults.{is_axis}
use Rattle.ifx_search.proofs.axis.Axis.stepped.Goals as goal

pub invariant_of-result : goal.invariant_of-result
invariant_of-result c =
    let offset : to_z w64 (of_z w64 c.args.offset) ≡ c.args.offset = to_z-of_z w64 c.args.offset c.ranges.offset in
    let step : to_z w64 (of_z w64 c.args.step) ≡ c.args.step = to_z-of_z w64 c.args.step c.ranges.step in
    (is_axis c.args.ty _ c.requires.narrow (sym c.in_default.ensures), (rw offset c.requires.offset, rw step c.requires.step))
