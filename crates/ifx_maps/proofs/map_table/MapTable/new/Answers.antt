use Rattle.std.proofs.Common.{rules, ◌≡◌, sym, subst, None}
use Rattle.ifx_maps.specs.Maps.{IsMap, map_fault}
use Rattle.ifx_maps.proofs.MapFaults.{is_map}
use Rattle.ifx_maps.proofs.map_table.MapTable.new.Goals as goal

pub invariant_of-result : goal.invariant_of-result
invariant_of-result c =
    let none : map_fault c.args.ty c.args.nx c.args.ny c.args.values.now ≡ None = search rules in
    subst (IsMap c.args.ty c.args.nx c.args.ny) (sym c.in_ok-values.ensures.items) (is_map c.args.ty c.args.nx c.args.ny c.args.values.now c.requires.narrow none)
