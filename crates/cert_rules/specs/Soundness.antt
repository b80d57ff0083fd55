-- That the rule of each part is sound: where all that it reads is within its entries, what the part's equation gives is
-- within the rule's bounds. Wires may hold any cells here, not only those of a run: `m ago w` is what wire w held so many
-- rows ago in the machine, and `e ago w` what it held in exact fractions.
use Rattle.std.specs.Prelude.{◌≡◌, ℕ, zero, suc, ◌<◌, false, List, [], length, get_or, ℤ, pos, Some, IsTrue}
use Rattle.fx_fraction.specs.Fraction.{Fraction}
use Rattle.net_model.specs.declared.wires.Item.{Item}
use Rattle.net_model.specs.declared.wires.Item.TheVariants.{Delay}
use Rattle.net_model.specs.declared.wires.Role.{Role}
use Rattle.net_model.specs.declared.wires.Role.TheVariants.{Y, X2, Value}
use Rattle.net_model.specs.declared.wires.Part.{Part}
use Rattle.net_model.specs.declared.wires.Wire.{Wire}
use Rattle.net_model.specs.Wires.{NetData, wire_at, has_role, parts_of, input_place, roles_of}
use Rattle.net_model.specs.Validity.{IsValid}
use Rattle.net_meaning.specs.Cells.{Cell, wire_values}
use Rattle.net_meaning.specs.Blocks.{machine, exact, as_fractions}
use Rattle.net_meaning.specs.Runs.{equation, is_first}
use Rattle.net_meaning.specs.Promises.{KeepsRange, ItemDivides}
use Rattle.part_rules.specs.declared.bounds.Bounds.{Bounds}
use Rattle.part_rules.specs.Within.{IsWithin}
use Rattle.cert_rules.specs.Rules.{count_held, holder}
use Rattle.cert_rules.specs.Certificates.{entry_of}
use Rattle.cert_rules.specs.Acceptance.{is_allowed_at, part_at}
use Rattle.cert_rules.specs.Arguments.{reads_ago, reads_at, rule_by}

-- ---- what parts hold

-- the same cells as they were so many rows before
abbrev pub back : {V : Type 0} → ℕ → (ℕ → ℕ → Cell V) → ℕ → ℕ → Cell V
back zero cells = cells
back (suc rows) cells = back rows (λ ago w. cells (suc ago) w)

-- value number n, from the newest, of a part of this role that holds values of a wire
abbrev pub value_held : {V : Type 0} → Role → ℕ → (ℕ → ℕ → Cell V) → ℕ → V
value_held Y wire cells n = (cells n wire).state
value_held X2 wire cells n = (cells (suc n) wire).value
value_held other wire cells n = (cells n wire).value

-- value number n of a part, from the newest
abbrev pub value_of : {V : Type 0} → NetData → Part → (ℕ → ℕ → Cell V) → ℕ → V
value_of net part cells n = value_held part.role (holder net part) cells n

-- how many values a part holds
abbrev pub count_of : NetData → Part → ℕ
count_of net part = count_held part.role (wire_at net.wires part.wire.0).item

-- where wires hold these cells, each value of a part is within its entry
abbrev pub IsPartHeld : NetData → List Bounds → Part → (ℕ → ℕ → Cell ℤ) → (ℕ → ℕ → Cell Fraction) → Type 0
IsPartHeld net entries part m e =
    (n : ℕ) → n < count_of net part → IsWithin (entry_of net entries part) (value_of net part m n) (value_of net part e n)

-- the same of part number k
abbrev pub IsHeld : NetData → List Bounds → ℕ → (ℕ → ℕ → Cell ℤ) → (ℕ → ℕ → Cell Fraction) → Type 0
IsHeld net entries k m e = IsPartHeld net entries (part_at net k) m e

-- ---- what a rule promises

-- the wire on which part number p stands
abbrev pub wire_of : NetData → ℕ → Wire
wire_of net p = wire_at net.wires (part_at net p).wire.0

-- each part that the rule of part number p reads is within its entry, at each row of which the rule reads it
abbrev pub IsGiven : NetData → List Bounds → ℕ → (ℕ → ℕ → Cell ℤ) → (ℕ → ℕ → Cell Fraction) → Type 0
IsGiven net entries p m e =
    (k ago : ℕ) → k < length (parts_of net.wires) → IsTrue (reads_ago net p k ago) →
    IsHeld net entries k (back ago m) (back ago e)

-- where the wire of part number p is an input, its value of the newest row lies in the declared range
abbrev pub KeepsInput : NetData → ℕ → List (List ℤ) → Type 0
KeepsInput net p rows =
    let place = input_place net.wires (part_at net p).wire.0 in
    KeepsRange (wire_of net p).item (get_or (get_or rows 0 []) place (pos 0))

-- a wire with this item has a row before the newest, where it is a delay: in the first it has its initial value
abbrev pub IsUnderWay : Item → List (List ℤ) → Type 0
IsUnderWay (Delay init source) rows = is_first rows ≡ false
IsUnderWay other rows = Unit {0}

-- what a part has before saturation, of this role: by the cell of its wire, or where it holds values of another wire the newest
-- of these
abbrev pub raw_by : {V : Type 0} → Role → Cell V → V → V
raw_by Value cell newest = cell.value_unsaturated
raw_by Y cell newest = cell.state_unsaturated
raw_by other cell newest = newest

-- what it has then
abbrev pub new_by : {V : Type 0} → Role → Cell V → V → V
new_by Value cell newest = cell.value
new_by Y cell newest = cell.state
new_by other cell newest = newest

-- what part number p's equation gives over the rows in the machine, before saturation
abbrev pub machine_raw : NetData → ℕ → List (List ℤ) → (ℕ → ℕ → Cell ℤ) → ℤ
machine_raw net p rows m =
    let part = part_at net p in raw_by part.role (equation machine net rows m part.wire.0) (value_of net part m 0)

-- what it gives in exact fractions
abbrev pub exact_value : NetData → ℕ → List (List ℤ) → (ℕ → ℕ → Cell Fraction) → Fraction
exact_value net p rows e =
    let part = part_at net p in new_by part.role (equation exact net rows e part.wire.0) (value_of net part e 0)

-- where the wire of part number p has a state Y, that of the newest row is by its equation
abbrev pub HasItsState : NetData → ℕ → List (List ℤ) → (ℕ → ℕ → Cell ℤ) → (ℕ → ℕ → Cell Fraction) → Type 0
HasItsState net p rows m e =
    let i = (part_at net p).wire.0 in
    IsTrue (has_role Y (roles_of (wire_of net p).item)) →
    ((m 0 i).state ≡ (equation machine net rows m i).state) × ((e 0 i).state ≡ (equation exact net rows e i).state)

-- part number p keeps to bounds
pub record KeepsBounds (net : NetData) (p : ℕ) (rows : List (List ℤ)) (m : ℕ → ℕ → Cell ℤ) (e : ℕ → ℕ → Cell Fraction)
    (bounds : Bounds) : Type 0 where
  -- its divisor isn't 0 in the machine
  pub machine_divides : ItemDivides net (wire_of net p) (wire_of net p).item (as_fractions (wire_values m))
  -- nor is it in exact fractions
  pub exact_divides : ItemDivides net (wire_of net p) (wire_of net p).item (wire_values e)
  -- the machine's value before saturation lies in the range, and within the error of the exact value
  pub within : IsWithin bounds (machine_raw net p rows m) (exact_value net p rows e)

-- the entry of each part that the rule of part number p reads is allowed
abbrev pub AreAllowedFor : NetData → List Bounds → ℕ → Type 0
AreAllowedFor net entries p =
    (k : ℕ) → k < length (parts_of net.wires) → IsTrue (reads_at net p k) → IsTrue (is_allowed_at net entries k)

-- the rules are sound: for each part of a valid network, from entries of which each that its rule reads is allowed, where the
-- rule gives bounds and all that it reads is within its entry, the part keeps to these bounds
abbrev pub RulesAreSound : Type 0
RulesAreSound =
    (net : NetData) → IsValid net →
    (entries : List Bounds) (p : ℕ) → p < length (parts_of net.wires) → AreAllowedFor net entries p →
    (rows : List (List ℤ)) (m : ℕ → ℕ → Cell ℤ) (e : ℕ → ℕ → Cell Fraction) →
    KeepsInput net p rows → IsUnderWay (wire_of net p).item rows → HasItsState net p rows m e →
    IsGiven net entries p m e →
    (bounds : Bounds) → rule_by net p (entry_of net entries) ≡ Some bounds → KeepsBounds net p rows m e bounds
