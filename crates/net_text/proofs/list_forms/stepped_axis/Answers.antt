use Rattle.std.proofs.Common.{to_z-of_z, ap, unsigned_abs}
use Rattle.net_text.proofs.ListFacts.{made_of_steps, no_fault_left}
use Rattle.net_text.proofs.list_forms.stepped_axis.Goals as goal

pub unreachable-requires : goal.unreachable-requires
unreachable-requires c =
    let owed = made_of_steps c.args.ty c.args.offset c.args.step c.args.count c.requires.narrow c.requires.good c.requires.few in
    no_fault_left c.args.ty c.args.offset c.args.step _ _ (unsigned_abs c.args.count) _ c.in-Err.field-0 (to_z-of_z c.ranges.offset) (to_z-of_z c.ranges.step) (ap unsigned_abs (to_z-of_z c.ranges.count)) owed.good c.in-Err.ensures.fault
