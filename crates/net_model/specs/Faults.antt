-- What is wrong with a draft: the tests of each wire in their order, then the sources of delays, then the tests of no
-- wire. The first that fails names the wire and the kind.
use Rattle.std.specs.Prelude.{ℕ, ◌+◌, Bool, not, ◌&&◌, ◌||◌, List, [], ◌∷◌, ◌++◌, length, take, nat_lt, nat_le, bytes_eq, position, Option, Some, None, Result, Ok, Err}
use Rattle.std.specs.List.{list_any, list_all}
use Rattle.text_words.specs.Names.{is_name}
use Rattle.text_words.specs.Steps.{◌>>=◌, demand}
use Rattle.net_model.specs.declared.network.NetKind.{NetKind}
use Rattle.net_model.specs.declared.network.NetKind.TheVariants.{Repeated, NotBuilt, LaterWire, TypeDiffers, OutOfRange, TooMany, Missing}
use Rattle.net_model.specs.declared.draft_checks.Fault.{Fault}
use Rattle.net_model.specs.declared.wires.WireNo.{WireNo}
use Rattle.net_model.specs.declared.wires.Wire.{Wire}
use Rattle.net_model.specs.declared.wires.Item.{Item}
use Rattle.net_model.specs.Wires.{NetData, window_of, window_sum}
use Rattle.net_model.specs.Validity.{list_names, axis_names, table_names, most_lists, is_good_kind, is_built_item, item_reads_earlier, item_agrees, item_in_range, is_sourced, is_among, has_ends, most_wires, most_rows}

-- the name of each wire is one
abbrev pub are_named : List Wire → Bool
are_named wires = list_all (λ w. is_name w.name) wires

-- a wire of the list has the name
abbrev pub has_name : List Wire → List ℕ → Bool
has_name wires name = list_any (λ w. bytes_eq name w.name) wires

-- the name is one of these
abbrev pub is_named : List (List ℕ) → List ℕ → Bool
is_named names name = list_any (bytes_eq name) names

-- there is room for one more wire behind those above: fewer than 512 are there, and with it their averages go over at most
-- 65536 rows together
abbrev pub has_room : List Wire → Item → Bool
has_room above item = nat_lt (length above) most_wires && nat_le (window_sum above + window_of item) most_rows

-- the tests of wire i, with the whole network at hand
unfoldable pub wire_tested : NetData → ℕ → Wire → Result (Unit {0}) NetKind
wire_tested net i w = do
  _ ← demand (not (is_named (list_names net) w.name || has_name (take i net.wires) w.name)) Repeated
  _ ← demand (is_built_item w.item) NotBuilt
  _ ← demand (item_reads_earlier i w.item) LaterWire
  _ ← demand (item_agrees net w.kind w.item) TypeDiffers
  _ ← demand (is_good_kind w.kind && item_in_range net.axes w.kind w.item) OutOfRange
  demand (has_room (take i net.wires) w.item) TooMany

-- a fault of a wire, or of no wire where the number is that of all wires
abbrev pub at_wire : {A : Type 0} → ℕ → Result A NetKind → Result A Fault
at_wire wire (Ok value) = Ok value
at_wire wire (Err kind) = Err (record { wire = wire; kind = kind })

-- the tests of the wires from number i on
unfoldable pub wires_tested : NetData → ℕ → List Wire → Result (Unit {0}) Fault
wires_tested net i [] = Ok tt
wires_tested net i (w ∷ rest) = do
  _ ← at_wire i (wire_tested net i w)
  wires_tested net (i + 1) rest

-- the first delay whose source isn't a wire of its kind
abbrev pub first_unsourced : List Wire → Option ℕ
first_unsourced wires = position (λ w. not (is_sourced wires w)) wires

-- the fault of a delay, if there is one
abbrev pub unsourced_at : Option ℕ → Result (Unit {0}) Fault
unsourced_at None = Ok tt
unsourced_at (Some wire) = Err (record { wire = wire; kind = TypeDiffers })

-- the tests of the delays' sources
unfoldable pub sources_tested : List Wire → Result (Unit {0}) Fault
sources_tested wires = unsourced_at (first_unsourced wires)

-- the tests of an output below others, in a network of so many wires: it isn't one of them, and it is a wire
unfoldable pub out_tested : ℕ → List WireNo → WireNo → Result (Unit {0}) NetKind
out_tested count above o = do
  _ ← demand (not (is_among above o)) Repeated
  demand (nat_lt o.0 count) LaterWire

-- the tests of the outputs below others
unfoldable pub outs_tested : ℕ → List WireNo → List WireNo → Result (Unit {0}) NetKind
outs_tested count above [] = Ok tt
outs_tested count above (o ∷ rest) = do
  _ ← out_tested count above o
  outs_tested count (above ++ o ∷ []) rest

-- the tests of names below others: none is named twice
unfoldable pub names_tested : List (List ℕ) → List (List ℕ) → Result (Unit {0}) NetKind
names_tested above [] = Ok tt
names_tested above (name ∷ rest) = do
  _ ← demand (not (is_named above name)) Repeated
  names_tested (above ++ name ∷ []) rest

-- the tests of axes and tables: the names of the axes, their number, and then those of the tables, below the axes' names
unfoldable pub lists_tested : NetData → Result (Unit {0}) NetKind
lists_tested net = do
  _ ← names_tested [] (axis_names net.axes)
  _ ← demand (nat_le (length net.axes) most_lists) TooMany
  _ ← names_tested (axis_names net.axes) (table_names net.tables)
  demand (nat_le (length net.tables) most_lists) TooMany

-- the tests of no wire
unfoldable pub ends_tested : NetData → Result (Unit {0}) NetKind
ends_tested net = do
  _ ← lists_tested net
  _ ← outs_tested (length net.wires) [] net.outs
  demand (has_ends net.wires net.outs) Missing

-- the tests of a draft, in their order
unfoldable pub tested : NetData → Result (Unit {0}) Fault
tested net = do
  _ ← wires_tested net 0 net.wires
  _ ← sources_tested net.wires
  at_wire (length net.wires) (ends_tested net)
