-- The inputs so far stand in their slots.
use Rattle.std.proofs.Common.{◌≡◌, length}
use Rattle.rec_csv.specs.Slots.{AreSlots}
use Rattle.rec_csv.proofs.slots.slots_of.Given as goal

abbrev pub invariant-inputs : goal.invariant-inputs
invariant-inputs l = record {
  one_each : length l.slots.items ≡ l.width;
  stand : AreSlots l.i l.columns l.slots.items;
}
