-- When a network is valid.
use Rattle.std.specs.Prelude.{ℕ, ◌+◌, ◌<◌, Bool, true, false, not, ◌&&◌, List, [], ◌∷◌, ◌++◌, map, length, get_or, ℤ, int_le, IsTrue, nat_le, nat_lt, ◌==◌, bytes_eq}
use Rattle.std.specs.List.{list_any, list_all}
use Rattle.text_words.specs.Names.{is_name}
use Rattle.fx_core.specs.declared.word_type.Ty.{Ty}
use Rattle.ifx_search.specs.Axes.{IsAxis, IsSpaced}
use Rattle.ifx_curves.specs.Tables.{IsTable}
use Rattle.fx_routines.specs.Names.{takes}
use Rattle.fx_routines.specs.Variants.{same_type}
use Rattle.net_model.specs.declared.wires.Kind.{Kind}
use Rattle.net_model.specs.declared.wires.Kind.TheVariants.{Num, Truth as TruthKind, Position}
use Rattle.net_model.specs.declared.wires.Block.{Block}
use Rattle.net_model.specs.declared.wires.Item.{Item}
use Rattle.net_model.specs.declared.wires.Item.TheVariants.{Input, Const, Delay, Block as OfBlock}
use Rattle.net_model.specs.declared.wires.Wire.{Wire}
use Rattle.net_model.specs.declared.wires.WireNo.{WireNo}
use Rattle.net_model.specs.declared.signatures.Sort.{Sort}
use Rattle.net_model.specs.declared.signatures.Sort.TheVariants.{Number, Truth, On, Over}
use Rattle.net_model.specs.declared.signatures.ListSort.{ListSort}
use Rattle.net_model.specs.declared.signatures.ListSort.TheVariants.{AxisOf, TableOf, TableOver}
use Rattle.net_model.specs.declared.block_forms.Form.{Form}
use Rattle.net_model.specs.Families.{is_built, list_or_zero}
use Rattle.net_model.specs.BlockForms.{both, in_ranges, form_of, form_in, signature_in, repeats_first, adds_no_number}
use Rattle.net_model.specs.Wires.{NamedAxis, NamedTable, NetData, no_axis, no_table, axis_at, table_at, wire_at, kind_least, kind_greatest, is_input, window_sum}

-- a binary point is at most 15
abbrev pub is_good_kind : Kind → Bool
is_good_kind (Num ty point) = nat_le point 15
is_good_kind TruthKind = true
is_good_kind (Position axis) = true

-- a value of a kind, in a network with these axes
abbrev pub kind_holds : List NamedAxis → Kind → ℤ → Bool
kind_holds axes kind v = int_le (kind_least axes kind) v && int_le v (kind_greatest axes kind)

-- a number or a truth value, which recordings and constants have
abbrev pub is_plain : Kind → Bool
is_plain (Num ty point) = true
is_plain TruthKind = true
is_plain (Position axis) = false

-- the axis of a kind is one of the network
abbrev pub is_kind_there : List NamedAxis → Kind → Bool
is_kind_there axes (Num ty point) = true
is_kind_there axes TruthKind = true
is_kind_there axes (Position axis) = nat_lt axis (length axes)

-- a number wire of a type
abbrev pub is_number_of : Ty → Kind → Bool
is_number_of ty (Num t point) = same_type ty t
is_number_of ty TruthKind = false
is_number_of ty (Position axis) = false

-- two kinds are the same
abbrev pub same_kind : Kind → Kind → Bool
same_kind (Num t p) (Num u q) = same_type t u && (p == q)
same_kind TruthKind TruthKind = true
same_kind (Position a) (Position b) = a == b
same_kind one other = false

-- a position on axis number n
abbrev pub is_position_on : ℕ → Kind → Bool
is_position_on n (Num ty point) = false
is_position_on n TruthKind = false
is_position_on n (Position axis) = axis == n

-- a position on an axis of so many points
abbrev pub is_position_over : List NamedAxis → ℕ → Kind → Bool
is_position_over axes n (Num ty point) = false
is_position_over axes n TruthKind = false
is_position_over axes n (Position axis) = nat_lt axis (length axes) && (length (axis_at axes axis).points == n)

-- a truth value
abbrev pub is_truth : Kind → Bool
is_truth (Num ty point) = false
is_truth TruthKind = true
is_truth (Position axis) = false

-- a wire of a sort, where a routine is given these lists: a position on one of them is on that axis, and one over a table is
-- on any axis as long as that
abbrev pub is_of_sort : NetData → List ℕ → Sort → Kind → Bool
is_of_sort net lists (Number ty) kind = is_number_of ty kind
is_of_sort net lists Truth kind = is_truth kind
is_of_sort net lists (On p) kind = is_position_on (list_or_zero lists p) kind
is_of_sort net lists (Over p) kind = is_position_over net.axes (length (table_at net.tables (list_or_zero lists p)).values) kind

-- an axis and a table of a type
abbrev pub is_axis_of : List NamedAxis → Ty → ℕ → Bool
is_axis_of axes ty n = nat_lt n (length axes) && same_type ty (axis_at axes n).ty

abbrev pub is_table_of : List NamedTable → Ty → ℕ → Bool
is_table_of tables ty n = nat_lt n (length tables) && same_type ty (table_at tables n).ty

-- a list of a sort, where a routine is given these; a table over one of them has as many values as that axis has points
abbrev pub is_list : NetData → List ℕ → ListSort → ℕ → Bool
is_list net lists (AxisOf ty) n = is_axis_of net.axes ty n
is_list net lists (TableOf ty) n = is_table_of net.tables ty n
is_list net lists (TableOver ty p) n =
    is_table_of net.tables ty n
    && (length (axis_at net.axes (list_or_zero lists p)).points == length (table_at net.tables n).values)

-- ---- blocks, by their forms

-- networks can have the block's routine as a block
abbrev pub is_built_block : Block → Bool
is_built_block b = is_built (form_of b).routine

-- there is a routine of the form's types: a row of the table of names
abbrev pub takes_form : Form → Bool
takes_form form = takes form.routine form.types

-- each wire of a form is earlier than wire i
abbrev pub wires_earlier : ℕ → List WireNo → Bool
wires_earlier i wires = list_all (λ w. nat_lt w.0 i) wires

-- there is one wire for each sort, of that sort
abbrev pub wires_agree : NetData → List ℕ → List Sort → List WireNo → Bool
wires_agree net lists = both (λ sort w. is_of_sort net lists sort (wire_at net.wires w.0).kind)

-- there is one list for each sort, of that sort
abbrev pub lists_agree : NetData → List ℕ → List ListSort → List ℕ → Bool
lists_agree net lists = both (is_list net lists)

-- the types of a form, of its wires and lists and of the wire that it gives agree
abbrev pub form_agrees : NetData → Kind → Form → Bool
form_agrees net kind form =
    takes_form form
    && lists_agree net form.lists (signature_in form).lists form.lists
    && wires_agree net form.lists (signature_in form).sorts form.wires
    && is_of_sort net form.lists (signature_in form).gives kind

-- the numbers of a form lie in their ranges
abbrev pub numbers_fit : Form → Bool
numbers_fit form = in_ranges (signature_in form).ranges form.numbers

-- each wire that a block of wire i reads is an earlier one
abbrev pub reads_earlier : ℕ → Block → Bool
reads_earlier i b = wires_earlier i (form_of b).wires

-- a block agrees where its form does; a wire that it holds beyond those that its routine has repeats the first
abbrev pub agrees : NetData → Kind → Block → Bool
agrees net kind b = form_agrees net kind (form_in net b) && repeats_first b

-- the numbers of a block lie in their ranges; one that it holds beyond those that its routine has is 0
abbrev pub has_good_numbers : Block → Bool
has_good_numbers b = numbers_fit (form_of b) && adds_no_number b

-- ---- items and wires

-- networks can have the item
abbrev pub is_built_item : Item → Bool
is_built_item (Input lo hi) = true
is_built_item (Const value) = true
is_built_item (Delay init source) = true
is_built_item (OfBlock b) = is_built_block b

-- what the item of wire i reads of its own row stands before it
abbrev pub item_reads_earlier : ℕ → Item → Bool
item_reads_earlier i (Input lo hi) = true
item_reads_earlier i (Const value) = true
item_reads_earlier i (Delay init source) = true
item_reads_earlier i (OfBlock b) = reads_earlier i b

-- the types of the item of a wire of this kind agree; an input and a constant are no positions, a position that is delayed is
-- on an axis that is there, and a delay's source is looked at behind all wires
abbrev pub item_agrees : NetData → Kind → Item → Bool
item_agrees net kind (Input lo hi) = is_plain kind
item_agrees net kind (Const value) = is_plain kind
item_agrees net kind (Delay init source) = is_kind_there net.axes kind
item_agrees net kind (OfBlock b) = agrees net kind b

-- a declared range isn't empty and lies in the kind, as do a constant and a delay's first value; a block's numbers lie in
-- their ranges
abbrev pub item_in_range : List NamedAxis → Kind → Item → Bool
item_in_range axes kind (Input lo hi) = kind_holds axes kind lo && kind_holds axes kind hi && int_le lo hi
item_in_range axes kind (Const value) = kind_holds axes kind value
item_in_range axes kind (Delay init source) = kind_holds axes kind init
item_in_range axes kind (OfBlock b) = has_good_numbers b

-- wire i, with the whole network at hand
abbrev pub is_good_wire : NetData → ℕ → Wire → Bool
is_good_wire net i w =
    is_name w.name
    && is_built_item w.item
    && item_reads_earlier i w.item
    && item_agrees net w.kind w.item
    && is_good_kind w.kind
    && item_in_range net.axes w.kind w.item

-- the wires from number i on
abbrev pub are_good_from : NetData → ℕ → List Wire → Bool
are_good_from net i [] = true
are_good_from net i (w ∷ rest) = is_good_wire net i w && are_good_from net (i + 1) rest

-- ---- delays

-- the source of a delay is a wire of the delay's very kind, anywhere in the network
abbrev pub is_good_source : List Wire → Kind → WireNo → Bool
is_good_source all kind source = nat_lt source.0 (length all) && same_kind kind (wire_at all source.0).kind

-- what an item of this kind reads of the row before is a good source
abbrev pub item_is_sourced : List Wire → Kind → Item → Bool
item_is_sourced all kind (Input lo hi) = true
item_is_sourced all kind (Const value) = true
item_is_sourced all kind (Delay init source) = is_good_source all kind source
item_is_sourced all kind (OfBlock b) = true

-- so is what a wire reads of the row before
abbrev pub is_sourced : List Wire → Wire → Bool
is_sourced all w = item_is_sourced all w.kind w.item

-- ---- networks

-- no name comes twice
abbrev pub are_distinct : List (List ℕ) → Bool
are_distinct [] = true
are_distinct (name ∷ rest) = not (list_any (bytes_eq name) rest) && are_distinct rest

-- an output is among others
abbrev pub is_among : List WireNo → WireNo → Bool
is_among others o = list_any (λ m. o.0 == m.0) others

-- no output comes twice
abbrev pub are_distinct_outs : List WireNo → Bool
are_distinct_outs [] = true
are_distinct_outs (o ∷ rest) = not (is_among rest o) && are_distinct_outs rest

-- there is an input and an output
abbrev pub has_ends : List Wire → List WireNo → Bool
has_ends wires outs = list_any (λ w. is_input w.item) wires && nat_lt 0 (length outs)

-- how many wires a network may have
abbrev pub most_wires : ℕ
most_wires = 512

-- how many axes a network may have, and how many tables
abbrev pub most_lists : ℕ
most_lists = 64

-- over how many rows the averages of a network may go together
abbrev pub most_rows : ℕ
most_rows = 65536

-- the names of axes, of tables and of wires
abbrev pub axis_names : List NamedAxis → List (List ℕ)
axis_names axes = map (λ a. a.0) axes

abbrev pub table_names : List NamedTable → List (List ℕ)
table_names tables = map (λ t. t.0) tables

abbrev pub wire_names : List Wire → List (List ℕ)
wire_names wires = map (λ w. w.name) wires

-- the names of axes and tables
abbrev pub list_names : NetData → List (List ℕ)
list_names net = axis_names net.axes ++ table_names net.tables

-- the tests of a network: it has at most 512 wires, whose averages go over at most 65536 rows together, and at most 64 axes and
-- 64 tables, all names are distinct, each wire is good in its place, the source of each delay is a wire of its kind, each
-- output is a wire and none stands twice, and there is at least one input and one output
unfoldable pub is_valid : NetData → Bool
is_valid net =
    nat_le (length net.wires) most_wires
    && nat_le (window_sum net.wires) most_rows
    && nat_le (length net.axes) most_lists
    && nat_le (length net.tables) most_lists
    && are_distinct (list_names net ++ wire_names net.wires)
    && are_good_from net 0 net.wires
    && list_all (is_sourced net.wires) net.wires
    && list_all (λ o. nat_lt o.0 (length net.wires)) net.outs
    && are_distinct_outs net.outs
    && has_ends net.wires net.outs

-- an axis with a name, whose points are some, rise and are in equal steps where that is said of them
pub record IsNamedAxis (named : NamedAxis) : Type 0 where
  pub name : IsTrue (is_name named.0)
  pub axis : IsAxis named.1.ty named.1.points
  pub spaced : IsSpaced named.1.points named.1.spacing

-- a table with a name
pub record IsNamedTable (named : NamedTable) : Type 0 where
  pub name : IsTrue (is_name named.0)
  pub table : IsTable named.1.ty named.1.values

-- each is one
abbrev pub AreAxes : List NamedAxis → Type 0
AreAxes axes = (k : ℕ) → k < length axes → IsNamedAxis (get_or axes k no_axis)

abbrev pub AreTables : List NamedTable → Type 0
AreTables tables = (k : ℕ) → k < length tables → IsNamedTable (get_or tables k no_table)

-- a network is valid where its axes and its tables are what they may be, and it passes these tests
pub record IsValid (net : NetData) : Type 0 where
  pub axes : AreAxes net.axes
  pub tables : AreTables net.tables
  pub tests : IsTrue (is_valid net)
