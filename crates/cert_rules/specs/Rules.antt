-- The rule of each part: what it reads, and the bounds that it gives from those of what it reads.
use Rattle.std.specs.Prelude.{ℕ, ◌-◌, ◌^◌, Bool, true, false, not, ◌&&◌, ◌||◌, List, [], ◌∷◌, get_or, ℤ, pos, int_le, int_lt, Option, Some, None, if◌then◌else◌}
use Rattle.fx_routines.specs.declared.interpolation.CurveOp.{CurveOp}
use Rattle.net_model.specs.declared.wires.Kind.{Kind}
use Rattle.net_model.specs.declared.wires.Block.{Block}
use Rattle.net_model.specs.declared.wires.Block.TheVariants.{Arith, Scaled, Gain, Average, Pt1, Dt1, Search, Curve, IntCurve}
use Rattle.net_model.specs.declared.wires.Item.{Item}
use Rattle.net_model.specs.declared.wires.Item.TheVariants.{Input, Const, Delay, Block as OfBlock}
use Rattle.net_model.specs.declared.wires.Role.{Role}
use Rattle.net_model.specs.declared.wires.Role.TheVariants.{Y, X1, X2, W, Value}
use Rattle.net_model.specs.declared.wires.Part.{Part}
use Rattle.net_model.specs.Wires.{NamedAxis, NetData, axis_at, table_at, wire_at, kind_least, kind_greatest, argument_of, block_roles, has_role, no_part}
use Rattle.net_model.specs.Families.{is_interpolated}
use Rattle.net_meaning.specs.Blocks.{points_of, state_least, state_greatest}
use Rattle.part_rules.specs.declared.bounds.Bounds.{Bounds}
use Rattle.part_rules.specs.Within.{no_bounds}
use Rattle.part_rules.specs.PartRules.{PartRule, Reading, bounds_at, fixed_rule, given_by, read_before, read_now, renamed}
use Rattle.mfx_rules.specs.OperationRules.{arith_rule, scaled_rule}
use Rattle.efx_rules.specs.KeptRules.{gain_rule, lag_rule, difference_rule, value_rule, average_rule}
use Rattle.ifx_rules.specs.KeptRules.{position_rule, curve_rule, curve_over_rule}

-- ---- parts

-- a part of wire number i
abbrev pub part_on : ℕ → Role → Part
part_on i role = record { wire = record { 0 = i }; role = role }

-- the value of argument number p of a block, as a part
abbrev pub argument_part : Block → ℕ → Part
argument_part b p = part_on (argument_of b p) Value

-- the input of a block on wire number i that keeps inputs
abbrev pub kept_wire : ℕ → Block → ℕ
kept_wire i (Average xty ty x n) = x.0
kept_wire i (Pt1 xty ty x teq k) = x.0
kept_wire i (Dt1 second xty ty x teq k) = x.0
kept_wire i other = i

-- the wire whose values a part of wire number i holds: what a block keeps of earlier rows are values of its input; any other
-- part is of its own wire
abbrev pub held_wire : Role → ℕ → Item → ℕ
held_wire Y i item = i
held_wire Value i item = i
held_wire kept i (OfBlock b) = kept_wire i b
held_wire kept i item = i

-- the same of a part
abbrev pub holder : NetData → Part → ℕ
holder net part = held_wire part.role part.wire.0 (wire_at net.wires part.wire.0).item

-- ---- which bounds a part may have

-- the least value of a part, by its role and the kind of the wire whose values it holds, in a network with these axes; a state
-- has its own 48 bits
abbrev pub least_by_role : List NamedAxis → Kind → Role → ℤ
least_by_role axes kind Y = state_least
least_by_role axes kind other = kind_least axes kind

-- the greatest one
abbrev pub greatest_by_role : List NamedAxis → Kind → Role → ℤ
greatest_by_role axes kind Y = state_greatest
greatest_by_role axes kind other = kind_greatest axes kind

-- the kind of the wire whose values a part holds
abbrev pub kind_of_part : NetData → Part → Kind
kind_of_part net part = (wire_at net.wires (holder net part)).kind

-- the least value of a part
abbrev pub least_of_part : NetData → Part → ℤ
least_of_part net part = least_by_role net.axes (kind_of_part net part) part.role

-- the greatest value of a part
abbrev pub greatest_of_part : NetData → Part → ℤ
greatest_of_part net part = greatest_by_role net.axes (kind_of_part net part) part.role

-- the number that the error of a part has to be below
abbrev pub cap_of_role : Role → ℤ
cap_of_role Y = pos (2 ^ 56)
cap_of_role other = pos (2 ^ 40)

-- a number lies between the ends of a part
abbrev pub is_between_ends : NetData → Part → ℤ → Bool
is_between_ends net part n = int_le (least_of_part net part) n && int_le n (greatest_of_part net part)

-- bounds are allowed for a part where both ends of their range lie between the part's ends, and their error is below its cap
unfoldable pub is_allowed : NetData → Part → Bounds → Bool
is_allowed net part b =
    is_between_ends net part b.lo && is_between_ends net part b.hi && int_lt b.err (cap_of_role part.role)

-- ---- the rules

-- the bounds of what is read, as they are
abbrev pub copied_rule : Reading Part → PartRule Part
copied_rule reading = record { reads = reading ∷ []; fails = λ given. false; bounds = λ given. bounds_at given 0 }

-- of what isn't a part there are no bounds
abbrev pub no_rule : PartRule Part
no_rule = record { reads = []; fails = λ given. true; bounds = λ given. no_bounds }

-- part number p of a list, from 0
abbrev pub listed : List Part → ℕ → Part
listed parts p = get_or parts p no_part

-- the rule of a curve where it is interpolated; of one that is looked up there are no bounds
abbrev pub where_interpolated : CurveOp → PartRule ℕ → PartRule ℕ
where_interpolated op rule = record {
  reads = rule.reads;
  fails = λ given. not (is_interpolated op) || rule.fails given;
  bounds = rule.bounds;
}

-- the rule of the value of a block on wire number i, one line a block
abbrev pub value_rule_of : NetData → ℕ → Block → PartRule Part
value_rule_of net i (Arith op v x y z shift) = renamed (argument_part (Arith op v x y z shift)) (arith_rule op shift)
value_rule_of net i (Scaled op v x y) =
    let b = Scaled op v x y in renamed (argument_part b) (scaled_rule op (points_of net (wire_at net.wires i).kind b))
value_rule_of net i (Gain xty ty x k) = renamed (listed (part_on x.0 Value ∷ [])) (gain_rule k)
value_rule_of net i (Average xty ty x n) = renamed (listed (part_on x.0 Value ∷ part_on i W ∷ [])) average_rule
value_rule_of net i (Pt1 xty ty x teq k) = renamed (listed (part_on i Y ∷ [])) value_rule
value_rule_of net i (Dt1 second xty ty x teq k) = renamed (listed (part_on i Y ∷ [])) value_rule
value_rule_of net i (Search ty x axis) = renamed (listed (part_on x.0 Value ∷ [])) (position_rule (axis_at net.axes axis).points)
value_rule_of net i (Curve op dp table) =
    renamed (listed (part_on dp.0 Value ∷ [])) (where_interpolated op (curve_rule (table_at net.tables table).values))
value_rule_of net i (IntCurve op x axis table) =
    let rule = curve_over_rule (axis_at net.axes axis).points (table_at net.tables table).values in
    renamed (listed (part_on x.0 Value ∷ [])) (where_interpolated op rule)

-- the rule of its state Y, one line a block that has one
abbrev pub state_rule_of : ℕ → Block → PartRule Part
state_rule_of i (Pt1 xty ty x teq k) = renamed (listed (part_on i Y ∷ part_on i X1 ∷ [])) (lag_rule teq k)
state_rule_of i (Dt1 true xty ty x teq k) =
    renamed (listed (part_on i Y ∷ part_on x.0 Value ∷ part_on i X1 ∷ [])) (difference_rule true teq k)
state_rule_of i (Dt1 false xty ty x teq k) =
    renamed (listed (part_on i Y ∷ part_on i X1 ∷ part_on i X2 ∷ [])) (difference_rule false teq k)
state_rule_of i other = no_rule

-- where a block on wire number i takes what it keeps of earlier rows: the input of the row before is what that row kept as its
-- input, anything else the input itself
abbrev pub kept_reading : ℕ → Block → Role → Reading Part
kept_reading i b X2 = read_before (part_on i X1)
kept_reading i b other = read_now (part_on (kept_wire i b) Value)

-- the rule of what it keeps: the bounds of that
abbrev pub kept_rule_of : ℕ → Block → Role → PartRule Part
kept_rule_of i b role = if has_role role (block_roles b) then copied_rule (kept_reading i b role) else no_rule

-- the rule of a part of a block on wire number i
unfoldable pub block_rule : NetData → ℕ → Block → Role → PartRule Part
block_rule net i b Value = value_rule_of net i b
block_rule net i b Y = state_rule_of i b
block_rule net i b kept = kept_rule_of i b kept

-- how many values a part of a wire with this item holds: a window the inputs of as many rows as its average goes over but
-- the newest, any other part one
abbrev pub count_held : Role → Item → ℕ
count_held W (OfBlock (Average xty ty x n)) = n - 1
count_held W item = 1
count_held role item = 1

-- the rule of a part of wire number i with this item
abbrev pub item_rule : NetData → ℕ → Item → Role → PartRule Part
item_rule net i (Input lo hi) Value = fixed_rule lo hi
item_rule net i (Const value) Value = fixed_rule value value
item_rule net i (Delay init source) Value = copied_rule (read_before (part_on source.0 Value))
item_rule net i (OfBlock b) role = block_rule net i b role
item_rule net i item role = no_rule

-- the rule of a part
abbrev pub part_rule : NetData → Part → PartRule Part
part_rule net part = item_rule net part.wire.0 (wire_at net.wires part.wire.0).item part.role

-- ---- what they give

-- bounds, where they are allowed
abbrev pub if_allowed : NetData → Part → Bounds → Option Bounds
if_allowed net part b = if is_allowed net part b then Some b else None

-- what is allowed of bounds, where there are any
abbrev pub allowed_of : NetData → Part → Option Bounds → Option Bounds
allowed_of net part None = None
allowed_of net part (Some b) = if_allowed net part b

-- the bounds that a part gets by its rule, from those of all parts; none where there is no rule for it, as where a divisor may
-- be 0, or where the bounds aren't allowed
unfoldable pub rule_of : NetData → Part → (Part → Bounds) → Option Bounds
rule_of net part known = allowed_of net part (given_by (part_rule net part) known)
