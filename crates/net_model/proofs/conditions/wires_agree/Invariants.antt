use Rattle.std.proofs.Common.{◌≡◌, drop}
use Rattle.net_model.specs.Drafts.{data_of}
use Rattle.net_model.specs.Validity.{wires_agree}
use Rattle.net_model.proofs.conditions.wires_agree.Given as goal

-- what is left decides
abbrev pub invariant-loop-i : goal.invariant-loop-i
invariant-loop-i l = wires_agree (data_of l.draft) l.lists (drop l.i l.sorts) (drop l.i l.wires) ≡ wires_agree (data_of l.draft) l.lists l.sorts l.wires
