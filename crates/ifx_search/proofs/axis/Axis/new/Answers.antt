use Rattle.std.proofs.Common.{sym}
use Rattle.ifx_search.proofs.Faults.{is_axis}
use Rattle.ifx_search.proofs.axis.Axis.new.Goals as goal

pub invariant_of-result : goal.invariant_of-result
invariant_of-result c = (rw c.in_ok-from_slice.ensures.items (is_axis c.args.ty c.args.points.now c.requires.narrow (sym c.in_default.ensures)), tt)
