use Rattle.std.proofs.Common.{append_assoc, vec_items}
use Rattle.bench_core.proofs.JoinedTexts.{joined_is}
use Rattle.bench_core.proofs.fault_refusals.fault_line.Goals as goal

pub returns : goal.returns
returns c =
    joined_is vec_items c.concat.result _ _ c.concat.ensures.ok (rw (c.as_bytes-number.ensures.value, c.format.ensures.text) (simp append_assoc))
