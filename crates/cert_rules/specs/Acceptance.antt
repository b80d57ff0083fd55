-- When a certificate is accepted, and which part fails first where it isn't.
use Rattle.std.specs.Prelude.{◌≡◌, ℕ, zero, suc, ◌<◌, Bool, true, false, ◌&&◌, List, length, get_or, ℤ, pos, int_le, IsTrue, Option, Some, None, if◌then◌else◌}
use Rattle.net_model.specs.declared.wires.Item.{Item}
use Rattle.net_model.specs.declared.wires.Item.TheVariants.{Delay}
use Rattle.net_model.specs.declared.wires.Role.{Role}
use Rattle.net_model.specs.declared.wires.Role.TheVariants.{Value}
use Rattle.net_model.specs.declared.wires.Part.{Part}
use Rattle.net_model.specs.Wires.{NetData, wire_at, parts_of, no_part}
use Rattle.net_model.specs.Smooth.{IsSmooth}
use Rattle.part_rules.specs.declared.bounds.Bounds.{Bounds}
use Rattle.part_rules.specs.Within.{no_bounds}
use Rattle.cert_rules.specs.Certificates.{entry_of}
use Rattle.cert_rules.specs.Rules.{is_allowed, rule_of}

-- an entry is allowed: its bounds are allowed for the part, its range isn't empty and its error isn't negative
abbrev pub is_allowed_entry : NetData → Part → Bounds → Bool
is_allowed_entry net part b =
    is_allowed net part b && int_le b.lo b.hi && int_le (pos 0) b.err

-- the value from which a wire starts: a delay from its initial value
abbrev pub first_value : Item → Option ℤ
first_value (Delay init source) = Some init
first_value item = None

-- what a block keeps starts from 0
abbrev pub start_by : Role → Option ℤ → Option ℤ
start_by Value first = first
start_by kept first = Some (pos 0)

-- the value from which a part starts, where it starts from one
abbrev pub start_of : Item → Role → Option ℤ
start_of item role = start_by role (first_value item)

-- the value from which a part starts lies in the entry's range
abbrev pub starts_inside : Option ℤ → Bounds → Bool
starts_inside None b = true
starts_inside (Some z) b = int_le b.lo z && int_le z b.hi

-- the bounds that a rule gives lie within an entry; where it gives none they don't
abbrev pub lies_inside : Option Bounds → Bounds → Bool
lies_inside None entry = false
lies_inside (Some r) entry = int_le entry.lo r.lo && int_le r.hi entry.hi && int_le r.err entry.err

-- an entry is inductive: its part starts within it, and the part's rule, from the entries of all parts, gives bounds that lie
-- within it
abbrev pub is_inductive_entry : NetData → List Bounds → Part → Bounds → Bool
is_inductive_entry net entries part b =
    starts_inside (start_of (wire_at net.wires part.wire.0).item part.role) b
    && lies_inside (rule_of net part (entry_of net entries)) b

-- part number k of a network, from 0
abbrev pub part_at : NetData → ℕ → Part
part_at net k = get_or (parts_of net.wires) k no_part

-- the entry of part number k
abbrev pub entry_at : List Bounds → ℕ → Bounds
entry_at entries k = get_or entries k no_bounds

-- the first test of part number k: its entry is allowed
unfoldable pub is_allowed_at : NetData → List Bounds → ℕ → Bool
is_allowed_at net entries k = is_allowed_entry net (part_at net k) (entry_at entries k)

-- the second test of part number k: its entry is inductive
unfoldable pub is_inductive_at : NetData → List Bounds → ℕ → Bool
is_inductive_at net entries k = is_inductive_entry net entries (part_at net k) (entry_at entries k)

-- each part's entry is allowed
abbrev pub AreAllowed : NetData → List Bounds → Type 0
AreAllowed net entries = (k : ℕ) → k < length (parts_of net.wires) → IsTrue (is_allowed_at net entries k)

-- each part's entry is inductive
abbrev pub AreInductive : NetData → List Bounds → Type 0
AreInductive net entries = (k : ℕ) → k < length (parts_of net.wires) → IsTrue (is_inductive_at net entries k)

-- a certificate of a network is accepted
pub record Accepts (net : NetData) (entries : List Bounds) : Type 0 where
  -- the network is smooth
  pub smooth : IsSmooth net.wires
  -- there is one entry for each part
  pub complete : length entries ≡ length (parts_of net.wires)
  -- each entry is allowed
  pub allowed : AreAllowed net entries
  -- each is inductive
  pub inductive : AreInductive net entries

-- the first of n numbers, from k on, that fails a test
unfoldable pub first_failing : (ℕ → Bool) → ℕ → ℕ → Option ℕ
first_failing test k zero = None
first_failing test k (suc n) = if test k then first_failing test (suc k) n else Some k

-- the earlier of two findings: the first where there is one
abbrev pub or_later : Option ℕ → Option ℕ → Option ℕ
or_later (Some k) later = Some k
or_later None later = later

-- the number of the first part that fails: the first whose entry isn't allowed; where all are, the first whose isn't
-- inductive
unfoldable pub first_rejected : NetData → List Bounds → Option ℕ
first_rejected net entries =
    or_later
    (first_failing (is_allowed_at net entries) 0 (length (parts_of net.wires)))
    (first_failing (is_inductive_at net entries) 0 (length (parts_of net.wires)))
