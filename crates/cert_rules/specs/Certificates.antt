-- What a certificate says of the parts of a network, and what it promises over a recording.
use Rattle.std.specs.Prelude.{ℕ, ◌<◌, Bool, true, false, List, length, get_or, ℤ, IsTrue}
use Rattle.net_model.specs.declared.wires.Part.{Part}
use Rattle.net_model.specs.declared.wires.Role.{Role}
use Rattle.net_model.specs.declared.wires.Role.TheVariants.{Y, Value}
use Rattle.net_model.specs.Wires.{NetData, wire_at, roles_of, parts_of, place_in, has_role}
use Rattle.net_meaning.specs.Cells.{Cell, cell_at}
use Rattle.net_meaning.specs.Blocks.{machine, exact}
use Rattle.net_meaning.specs.Runs.{Tables}
use Rattle.part_rules.specs.declared.bounds.Bounds.{Bounds}
use Rattle.part_rules.specs.Within.{IsWithin, no_bounds}

-- what a certificate, which has one entry for each part in their order, says of a part
unfoldable pub entry_of : NetData → List Bounds → Part → Bounds
entry_of net entries part = get_or entries (place_in part.wire.0 part.role (parts_of net.wires)) no_bounds

-- a certificate promises something of the part: of a wire's value, and of the state of its block. What a block keeps of
-- earlier inputs are values of another wire, of which it promises something there
abbrev pub is_promised : Role → Bool
is_promised Value = true
is_promised Y = true
is_promised other = false

-- the network has the part
pub record IsPart (net : NetData) (part : Part) : Type 0 where
  -- it stands on one of the wires
  pub wire : part.wire.0 < length net.wires
  -- which has a part of its role
  pub role : IsTrue (has_role part.role (roles_of (wire_at net.wires part.wire.0).item))

-- what a cell has of a part that is promised
abbrev pub held_by : {V : Type 0} → Role → Cell V → V
held_by Y cell = cell.state
held_by other cell = cell.value

-- at each row, each part that is promised is within the certificate's bounds
abbrev pub Within : NetData → List Bounds → List (List ℤ) → Tables → Type 0
Within net entries rows tables =
    (j : ℕ) (part : Part) → j < length rows → IsPart net part → IsTrue (is_promised part.role) →
    IsWithin (entry_of net entries part)
    (held_by part.role (cell_at machine tables.in_machine j part.wire.0))
    (held_by part.role (cell_at exact tables.exactly j part.wire.0))
