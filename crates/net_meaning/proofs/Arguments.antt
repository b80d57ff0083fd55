-- In a valid network the arguments of each block are earlier wires.
use Rattle.std.specs.Prelude.{◌≡◌, ℕ, ◌<◌, length}
use Rattle.std.proofs.Common.{refl}
use Rattle.net_model.specs.declared.wires.Item.{Item}
use Rattle.net_model.specs.declared.wires.Item.TheVariants.{Input, Const, Delay, Block as OfBlock}
use Rattle.net_model.specs.Wires.{NetData, wire_at, argument_of}
use Rattle.net_model.specs.Validity.{IsValid}
use Rattle.net_model.proofs.ValidityFacts.{argument_of-valid}

-- the arguments of a block of wire i are earlier wires
abbrev pub ArgumentsEarlier : ℕ → Item → Type 0
ArgumentsEarlier i (Input lo hi) = Unit {0}
ArgumentsEarlier i (Const value) = Unit {0}
ArgumentsEarlier i (Delay init source) = Unit {0}
ArgumentsEarlier i (OfBlock b) = (p : ℕ) → argument_of b p < i

-- each block of the network reads earlier wires
abbrev pub IsOrdered : NetData → Type 0
IsOrdered net = (i : ℕ) → i < length net.wires → ArgumentsEarlier i (wire_at net.wires i).item

pub arguments_earlier : (net : NetData) → IsValid net → IsOrdered net
arguments_earlier net valid i h = of_item (wire_at net.wires i).item refl
  where
    of_item : (item : Item) → (wire_at net.wires i).item ≡ item → ArgumentsEarlier i item
    of_item (Input lo hi) e = tt
    of_item (Const value) e = tt
    of_item (Delay init source) e = tt
    of_item (OfBlock b) e = argument_of-valid net i b valid h e
