-- A network as data, and what is read off its wires without running it.
use Rattle.std.specs.Prelude.{ℕ, suc, ◌+◌, ◌-◌, ◌*◌, Bool, true, false, List, [], ◌∷◌, ◌++◌, map, length, get_or, take, ℤ, pos, count_by, ◌&&◌, ◌==◌, Option, Some, None, position, bytes_eq, if◌then◌else◌}
use Rattle.fx_core.specs.declared.word_type.Ty.TheVariants.{U8}
use Rattle.fx_core.specs.Types.{least_of, greatest_of}
use Rattle.ifx_search.specs.Axes.{AxisData}
use Rattle.ifx_curves.specs.Tables.{TableData}
use Rattle.net_model.specs.declared.wires.WireNo.{WireNo}
use Rattle.net_model.specs.declared.wires.PartNo.{PartNo}
use Rattle.net_model.specs.declared.wires.Kind.{Kind}
use Rattle.net_model.specs.declared.wires.Kind.TheVariants.{Num, Truth, Position}
use Rattle.net_model.specs.declared.wires.Block.{Block}
use Rattle.net_model.specs.declared.wires.Block.TheVariants.{Average, Pt1, Dt1}
use Rattle.net_model.specs.declared.wires.Item.{Item}
use Rattle.net_model.specs.declared.wires.Item.TheVariants.{Input, Const, Delay, Block as OfBlock}
use Rattle.net_model.specs.declared.wires.Role.{Role}
use Rattle.net_model.specs.declared.wires.Role.TheVariants.{Y, X1, X2, W, Value}
use Rattle.net_model.specs.declared.wires.Part.{Part}
use Rattle.net_model.specs.declared.wires.Wire.{Wire}
use Rattle.net_model.specs.Families.{held_by, wire_or_first}

-- an axis and a table, each with its name
abbrev pub NamedAxis : Type 0
NamedAxis = List ℕ × AxisData

abbrev pub NamedTable : Type 0
NamedTable = List ℕ × TableData

-- a network: its axes and its tables, its wires in order, and its output wires in the order of printing
pub record NetData : Type 0 where
  pub axes : List NamedAxis
  pub tables : List NamedTable
  pub wires : List Wire
  pub outs : List WireNo

-- the network without wires and lists
abbrev pub no_net : NetData
no_net = record { axes = []; tables = []; wires = []; outs = [] }

-- a network with one axis more
abbrev pub with_axis : NetData → NamedAxis → NetData
with_axis net a = record { axes = net.axes ++ a ∷ []; tables = net.tables; wires = net.wires; outs = net.outs }

-- a network with one table more
abbrev pub with_table : NetData → NamedTable → NetData
with_table net t = record { axes = net.axes; tables = net.tables ++ t ∷ []; wires = net.wires; outs = net.outs }

-- a network with one wire more
abbrev pub with_wire : NetData → Wire → NetData
with_wire net w = record { axes = net.axes; tables = net.tables; wires = net.wires ++ w ∷ []; outs = net.outs }

-- a network with one output more
abbrev pub with_out : NetData → WireNo → NetData
with_out net o = record { axes = net.axes; tables = net.tables; wires = net.wires; outs = net.outs ++ o ∷ [] }

-- the axis and the table that are read where there is none
abbrev pub no_axis : NamedAxis
no_axis = ([], record { ty = U8; points = []; spacing = None })

abbrev pub no_table : NamedTable
no_table = ([], record { ty = U8; values = [] })

-- axis and table number i, from 0
abbrev pub axis_at : List NamedAxis → ℕ → AxisData
axis_at axes i = (get_or axes i no_axis).1

abbrev pub table_at : List NamedTable → ℕ → TableData
table_at tables i = (get_or tables i no_table).1

-- the wire that is read where there is none
abbrev pub no_wire : Wire
no_wire = record { name = []; kind = Num U8 0; item = Input (pos 0) (pos 0) }

-- wire number i, from 0
abbrev pub wire_at : List Wire → ℕ → Wire
wire_at wires i = get_or wires i no_wire

-- the position of an axis's last point
abbrev pub last_position : AxisData → ℕ
last_position axis = 65536 * (length axis.points - 1)

-- the least value of a kind, in a network with these axes
abbrev pub kind_least : List NamedAxis → Kind → ℤ
kind_least axes (Num ty point) = least_of ty
kind_least axes Truth = pos 0
kind_least axes (Position axis) = pos 0

-- the greatest value of a kind
abbrev pub kind_greatest : List NamedAxis → Kind → ℤ
kind_greatest axes (Num ty point) = greatest_of ty
kind_greatest axes Truth = pos 1
kind_greatest axes (Position axis) = pos (last_position (axis_at axes axis))

-- the binary point of a kind, 0 where it has none
abbrev pub point_of : Kind → ℕ
point_of (Num ty point) = point
point_of Truth = 0
point_of (Position axis) = 0

-- argument number p of a block, from 0, as the number of a wire; behind the last one the first
abbrev pub argument_of : Block → ℕ → ℕ
argument_of b p = (wire_or_first (held_by b).wires p).0

-- whether a wire is an input
abbrev pub is_input : Item → Bool
is_input (Input lo hi) = true
is_input (Const value) = false
is_input (Delay init source) = false
is_input (OfBlock b) = false

-- the place of input wire i among the inputs: how many of the wires before it are inputs
abbrev pub input_place : List Wire → ℕ → ℕ
input_place wires i = count_by (λ w. is_input w.item) (take i wires)

-- one more number in front, where the wire is an input
abbrev pub with_input : Item → ℕ → List WireNo → List WireNo
with_input (Input lo hi) i rest = record { 0 = i } ∷ rest
with_input (Const value) i rest = rest
with_input (Delay init source) i rest = rest
with_input (OfBlock b) i rest = rest

-- the inputs among wires that are numbered from i
abbrev pub inputs_from : ℕ → List Wire → List WireNo
inputs_from i [] = []
inputs_from i (w ∷ wires) = with_input w.item i (inputs_from (i + 1) wires)

-- the inputs, in order
abbrev pub inputs_of : List Wire → List WireNo
inputs_of wires = inputs_from 0 wires

-- over how many rows a block takes the mean; 0 where it takes none
abbrev pub window_in : Block → ℕ
window_in (Average xty ty x n) = n
window_in other = 0

-- over how many rows a wire takes the mean
abbrev pub window_of : Item → ℕ
window_of (Input lo hi) = 0
window_of (Const value) = 0
window_of (Delay init source) = 0
window_of (OfBlock b) = window_in b

-- over how many rows the averages among wires go together
abbrev pub window_sum : List Wire → ℕ
window_sum [] = 0
window_sum (w ∷ wires) = window_of w.item + window_sum wires

-- the parts of a wire with a block, in order: its states, then its value
abbrev pub block_roles : Block → List Role
block_roles (Pt1 xty ty x teq k) = Y ∷ X1 ∷ Value ∷ []
block_roles (Dt1 true xty ty x teq k) = Y ∷ X1 ∷ Value ∷ []
block_roles (Dt1 false xty ty x teq k) = Y ∷ X1 ∷ X2 ∷ Value ∷ []
block_roles (Average xty ty x n) = W ∷ Value ∷ []
block_roles other = Value ∷ []

-- the parts of a wire
abbrev pub roles_of : Item → List Role
roles_of (Input lo hi) = Value ∷ []
roles_of (Const value) = Value ∷ []
roles_of (Delay init source) = Value ∷ []
roles_of (OfBlock b) = block_roles b

-- the parts of wires that are numbered from i
abbrev pub parts_from : ℕ → List Wire → List Part
parts_from i [] = []
parts_from i (w ∷ wires) = map (λ r. record { wire = record { 0 = i }; role = r }) (roles_of w.item) ++ parts_from (i + 1) wires

-- all parts, in the order of the wires
abbrev pub parts_of : List Wire → List Part
parts_of wires = parts_from 0 wires

-- the number of each wire's first part, where that of the first wire is n
abbrev pub firsts_from : ℕ → List Wire → List PartNo
firsts_from n [] = []
firsts_from n (w ∷ wires) = record { 0 = n } ∷ firsts_from (n + length (roles_of w.item)) wires

-- the number of wire k's first part
abbrev pub first_at : List PartNo → ℕ → PartNo
first_at firsts k = get_or firsts k (record { 0 = 0 })

-- the part that is read where there is none
abbrev pub no_part : Part
no_part = record { wire = record { 0 = 0 }; role = Value }

-- two roles are the same
abbrev pub same_role : Role → Role → Bool
same_role Y Y = true
same_role X1 X1 = true
same_role X2 X2 = true
same_role W W = true
same_role Value Value = true
same_role one other = false

-- a part is the one of a wire with a role
abbrev pub is_part : ℕ → Role → Part → Bool
is_part wire role p = (p.wire.0 == wire) && same_role p.role role

-- the number of a part of a wire in a list of parts: how many stand before it
abbrev pub place_in : ℕ → Role → List Part → ℕ
place_in wire role [] = 0
place_in wire role (p ∷ parts) = if is_part wire role p then 0 else suc (place_in wire role parts)

-- a role is among those of a wire
abbrev pub has_role : Role → List Role → Bool
has_role role [] = false
has_role role (r ∷ roles) = if same_role r role then true else has_role role roles

-- the place of a role among roles: how many stand before it
abbrev pub role_place : Role → List Role → ℕ
role_place role [] = 0
role_place role (r ∷ roles) = if same_role r role then 0 else suc (role_place role roles)

-- the number of a part of a wire; none where the wire has no such part
unfoldable pub part_number : List Wire → ℕ → Role → Option ℕ
part_number wires wire role =
    if has_role role (roles_of (wire_at wires wire).item) then Some (place_in wire role (parts_of wires)) else None

-- the number of the first wire of a name; none where no wire has it
unfoldable pub place_of : List Wire → List ℕ → Option ℕ
place_of wires name = position (λ w. bytes_eq w.name name) wires
