use Rattle.std.proofs.Common.{pos, subst, FitsSigned}
use Rattle.std.specs.Int.{w8, w32, w128}
use Rattle.std.proofs.lemmas.Int.{to_z-of_z}
use Rattle.fx_core.specs.Types.{Holds}
use Rattle.bfx_bits.proofs.SaturatedShift.{saturated_shift_is}
use Rattle.bfx_bits.proofs.turns.shift_bit_sat.Goals as goal

pub returns : goal.returns
returns g c =
    let number : FitsSigned w128 c.to_wide.result = record { sfits = c.to_wide.type_inv } in
    let count : FitsSigned w32 c.near_count.result = record { sfits = c.near_count.type_inv } in
    let shifted : FitsSigned w128 c.shift_round.result = record { sfits = c.shift_round.type_inv } in
    let near = rw (to_z-of_z w8 c.args.n c.ranges.n) at c.near_count.ensures in
    let rounds = rw (to_z-of_z w128 c.to_wide.result number, to_z-of_z w32 c.near_count.result count) at c.shift_round.ensures.value in
    let saturates = rw (to_z-of_z w128 c.shift_round.result shifted) at c.from_wide.ensures.saturates in
    saturated_shift_is g.W.FxInt.TY (g.W.FxInt.wide c.args.w) c.args.n (pos 0) (pos 0) c.to_wide.result c.near_count.result c.shift_round.result (g.W.FxInt.wide c.from_wide.result) c.requires.taken (subst (Holds g.W.FxInt.TY) c.to_wide.ensures.value c.to_wide.ensures.held) c.to_wide.ensures.value near rounds saturates
