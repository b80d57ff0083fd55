use Rattle.std.proofs.Common.{◌≡◌, ◌<◌, length, ◌∙◌, arith, subst}
use Rattle.std.proofs.lemmas.List.{length-set}
use Rattle.rec_csv.specs.Slots.{AreSlots}
use Rattle.rec_csv.proofs.SlotFacts.{slots_more}
use Rattle.rec_csv.proofs.slots.slots_of.Goals as goal

-- one more input in its slot
pub inputs-preserved : goal.inputs-preserved
inputs-preserved c =
    let columns = c.args.columns.now in
    let slots = c.inputs.slots.items in
    let lt : c.inputs.i < length columns = omega arith in
    record {
      one_each = length-set slots _ _ ∙ c.inputs.invariant.one_each;
      stand = slots_more columns c.args.width slots c.inputs.i c.requires.apart lt c.inputs.invariant.one_each c.inputs.invariant.stand;
    }

-- all inputs
pub returns-clause-table : goal.returns-clause-table
returns-clause-table c =
    let all : c.inputs.i ≡ length c.args.columns.now = omega arith in
    subst (λ n. AreSlots n c.args.columns.now c.inputs.slots.items) all c.inputs.invariant.stand
