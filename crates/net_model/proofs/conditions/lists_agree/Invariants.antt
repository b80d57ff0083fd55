use Rattle.std.proofs.Common.{◌≡◌, drop}
use Rattle.net_model.specs.Drafts.{data_of}
use Rattle.net_model.specs.BlockForms.{both}
use Rattle.net_model.specs.Validity.{is_list, lists_agree}
use Rattle.net_model.proofs.conditions.lists_agree.Given as goal

-- what is left decides
abbrev pub invariant-loop-i : goal.invariant-loop-i
invariant-loop-i l =
    both (is_list (data_of l.draft) l.lists) (drop l.i l.sorts) (drop l.i l.lists) ≡ lists_agree (data_of l.draft) l.lists l.sorts l.lists
