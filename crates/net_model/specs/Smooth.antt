-- Smooth networks: those that certificates are for.
use Rattle.std.specs.Prelude.{◌≡◌, ℕ, ◌<◌, Bool, true, false, List, length, IsTrue}
use Rattle.net_model.specs.declared.wires.Item.{Item}
use Rattle.net_model.specs.declared.wires.Item.TheVariants.{Input, Const, Delay, Block as OfBlock}
use Rattle.net_model.specs.declared.wires.Block.{Block}
use Rattle.net_model.specs.declared.wires.Wire.{Wire}
use Rattle.net_model.specs.BlockForms.{form_of, signature_in}
use Rattle.net_model.specs.Wires.{wire_at}

-- a block is smooth: it doesn't switch, look up, or take a remainder or bits
abbrev pub is_smooth_block : Block → Bool
is_smooth_block b = (signature_in (form_of b)).smooth

-- so is a wire, where its block is; one without a block is
abbrev pub is_smooth : Item → Bool
is_smooth (Input lo hi) = true
is_smooth (Const value) = true
is_smooth (Delay init source) = true
is_smooth (OfBlock b) = is_smooth_block b

-- a network is smooth where each wire is
abbrev pub IsSmooth : List Wire → Type 0
IsSmooth wires = (i : ℕ) → i < length wires → IsTrue (is_smooth (wire_at wires i).item)

-- wire i isn't smooth, and it is the first such wire
abbrev pub IsFirstRough : List Wire → ℕ → Type 0
IsFirstRough wires i =
    (i < length wires)
    × (is_smooth (wire_at wires i).item ≡ false)
    × ((k : ℕ) → k < i → IsTrue (is_smooth (wire_at wires k).item))
