use Rattle.std.proofs.Common.{◌≡◌, ◌≤◌, true, take, drop}
use Rattle.net_model.specs.Drafts.{data_of}
use Rattle.net_model.specs.Faults.{are_named, wires_tested}
use Rattle.net_model.proofs.draft_checks.check_wires.Given as goal

-- the wires from here on decide; none above was one too many, and each had a name
abbrev pub invariant-loop-i : goal.invariant-loop-i
invariant-loop-i l =
    (wires_tested (data_of l.draft) l.i (drop l.i l.draft.wires.items) ≡ wires_tested (data_of l.draft) 0 l.draft.wires.items) × (l.i ≤ 512) × (are_named (take l.i l.draft.wires.items) ≡ true)
