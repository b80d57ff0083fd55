-- The blocks: one formula each for the value, and one for the state Y where the block has one, all on fractions; and
-- what the machine and exact fractions make of them.
use Rattle.std.specs.Prelude.{ℕ, Bool, ℤ, pos, unsigned_abs, List, Option, Some, None, if◌then◌else◌}
use Rattle.fx_fraction.specs.Fraction.{Fraction, whole, minus}
use Rattle.fx_core.specs.declared.quotient.Mode.{Mode}
use Rattle.fx_core.specs.declared.quotient.Mode.TheVariants.{Zero, Near, Floor}
use Rattle.fx_core.specs.Types.{saturated_to}
use Rattle.fx_core.specs.Values.{rounded_fraction, unsaturated, value_between}
use Rattle.mfx_scaled.specs.declared.binary_points.Points.{Points}
use Rattle.net_model.specs.declared.wires.Kind.{Kind}
use Rattle.net_model.specs.declared.wires.Block.{Block}
use Rattle.net_model.specs.declared.wires.Block.TheVariants.{Arith, Scaled, Gain, Average, Pt1, Dt1, Search, Curve, IntCurve}
use Rattle.net_model.specs.Wires.{NamedAxis, NetData, axis_at, table_at, wire_at, argument_of, point_of, kind_least, kind_greatest}
use Rattle.mfx_scaled.specs.Formulas.{scaled_formula, quotient_of as scaled_quotient}
use Rattle.mfx_arith.specs.Formulas.{arith_formula, quotient_of as arith_quotient}
use Rattle.fx_routines.specs.declared.interpolation.CurveOp.{CurveOp}
use Rattle.fx_routines.specs.declared.interpolation.CurveOp.TheVariants.{Ipo, LkUp}
use Rattle.ifx_search.specs.Positions.{position}
use Rattle.ifx_curves.specs.Curves.{curve, looked_up}
use Rattle.efx_filters.specs.Formulas.{gain_formula, lag_formula, value_formula, average_formula}
pub use Rattle.efx_filters.specs.Formulas.{state_least, state_greatest}
use Rattle.net_meaning.specs.Cells.{Cell, Meaning}

-- the binary points of a block's arguments and of its own wire
abbrev pub points_of : NetData → Kind → Block → Points
points_of net kind b = record {
  a = point_of (wire_at net.wires (argument_of b 0)).kind;
  b = point_of (wire_at net.wires (argument_of b 1)).kind;
  c = point_of kind;
}

-- the rounding of a block's library
abbrev pub mode_of : Block → Mode
mode_of (Arith op v x y z shift) = Zero
mode_of (Scaled op v x y) = Zero
mode_of (Gain xty ty x k) = Near
mode_of (Average xty ty x n) = Near
mode_of (Pt1 xty ty x teq k) = Near
mode_of (Dt1 second xty ty x teq k) = Near
mode_of (Search ty x axis) = Floor
mode_of (Curve op dp table) = Floor
mode_of (IntCurve op x axis table) = Floor

-- a curve through these values at a position: interpolated, or looked up at the position rounded downward
abbrev pub curve_formula : CurveOp → List ℤ → Fraction → Fraction
curve_formula Ipo values t = curve values t
curve_formula LkUp values t = whole (looked_up values (unsigned_abs (rounded_fraction Floor t)))

-- a block's value, unrounded, from what it reads and its new state
unfoldable pub formula : NetData → Kind → Block → (ℕ → ℕ → Fraction) → Fraction → Fraction
formula net kind (Arith op v x y z shift) given state = arith_formula op shift (λ p. given p 0)
formula net kind (Scaled op v x y) given state = scaled_formula op (points_of net kind (Scaled op v x y)) (λ p. given p 0)
formula net kind (Gain xty ty x k) given state = gain_formula k (given 0 0)
formula net kind (Average xty ty x n) given state = average_formula n (given 0)
formula net kind (Pt1 xty ty x teq k) given state = value_formula state
formula net kind (Dt1 second xty ty x teq k) given state = value_formula state
formula net kind (Search ty x axis) given state = position (axis_at net.axes axis).points (given 0 0)
formula net kind (Curve op dp table) given state = curve_formula op (table_at net.tables table).values (given 0 0)
formula net kind (IntCurve op x axis table) given state =
    curve_formula op (table_at net.tables table).values (position (axis_at net.axes axis).points (given 0 0))

-- the difference that drives a differentiating lag, from its inputs so many rows ago: of this row's and the one's before
-- where it is of the second type, else of the one's before and the one's before that
abbrev pub difference_of : Bool → (ℕ → Fraction) → Fraction
difference_of second input = if second then minus (input 0) (input 1) else minus (input 1) (input 2)

-- the new state Y of a block, unrounded, from what it reads and its old state; none where the block has no Y
unfoldable pub state_formula : NetData → Block → (ℕ → ℕ → Fraction) → Fraction → Option Fraction
state_formula net (Arith op v x y z shift) given old = None
state_formula net (Scaled op v x y) given old = None
state_formula net (Gain xty ty x k) given old = None
state_formula net (Average xty ty x n) given old = None
state_formula net (Pt1 xty ty x teq k) given old = Some (lag_formula teq k old (given 0 1))
state_formula net (Dt1 second xty ty x teq k) given old = Some (lag_formula teq k old (difference_of second (given 0)))
state_formula net (Search ty x axis) given old = None
state_formula net (Curve op dp table) given old = None
state_formula net (IntCurve op x axis table) given old = None

-- the dividend and the divisor of a block that divides, from what it reads
unfoldable pub quotient_of : NetData → Kind → Block → (ℕ → ℕ → Fraction) → Option (Fraction × Fraction)
quotient_of net kind (Arith op v x y z shift) given = arith_quotient op shift (λ p. given p 0)
quotient_of net kind (Scaled op v x y) given = scaled_quotient op (points_of net kind (Scaled op v x y)) (λ p. given p 0)
quotient_of net kind (Gain xty ty x k) given = None
quotient_of net kind (Average xty ty x n) given = None
quotient_of net kind (Pt1 xty ty x teq k) given = None
quotient_of net kind (Dt1 second xty ty x teq k) given = None
quotient_of net kind (Search ty x axis) given = None
quotient_of net kind (Curve op dp table) given = None
quotient_of net kind (IntCurve op x axis table) given = None

-- whole numbers as fractions
abbrev pub as_fractions : (ℕ → ℕ → ℤ) → ℕ → ℕ → Fraction
as_fractions values i j = whole (values i j)

-- a state in the machine before saturation, rounded to the nearest; 0 where there is none
abbrev pub machine_state : Option Fraction → ℤ
machine_state None = pos 0
machine_state (Some y) = rounded_fraction Near y

-- a state in the machine
abbrev pub saturated_state : ℤ → ℤ
saturated_state state = saturated_to state_least state_greatest state

-- an exact state; 0 where there is none
abbrev pub exact_state : Option Fraction → Fraction
exact_state None = whole (pos 0)
exact_state (Some y) = y

-- a machine's cell, from its library's rounding, the axes of its network and the kind of its wire, its state before saturation, and its block's
-- quotient and formula
unfoldable pub machine_cell : Mode → List NamedAxis → Kind → ℤ → Option (Fraction × Fraction) → Fraction → Cell ℤ
machine_cell mode axes kind state quotient value = record {
  state = saturated_state state;
  state_unsaturated = state;
  value = value_between mode (kind_least axes kind) (kind_greatest axes kind) quotient value;
  value_unsaturated = unsaturated mode (kind_least axes kind) (kind_greatest axes kind) quotient value;
}

-- a block's state in the machine before saturation, from what it reads and its state a row earlier
unfoldable pub machine_state_of : NetData → Block → (ℕ → ℕ → ℤ) → ℤ → ℤ
machine_state_of net b given old = machine_state (state_formula net b (as_fractions given) (whole old))

-- a block's value in the machine before it is rounded, from what it reads and its state at this row
abbrev pub machine_formula : NetData → Kind → Block → (ℕ → ℕ → ℤ) → ℤ → Fraction
machine_formula net kind b given state = formula net kind b (as_fractions given) (whole state)

-- the machine: whole numbers, each formula rounded once and saturated
unfoldable pub machine : Meaning ℤ
machine = record {
  of_whole = λ z. z;
  of_block = λ net kind b given before.
      let state = machine_state_of net b given before.state in
      let quotient = quotient_of net kind b (as_fractions given) in
      machine_cell (mode_of b) net.axes kind state quotient (machine_formula net kind b given (saturated_state state));
}

-- an exact cell, which has nothing to saturate, from its state and its value
unfoldable pub exact_cell : Fraction → Fraction → Cell Fraction
exact_cell state value = record { state = state; state_unsaturated = state; value = value; value_unsaturated = value }

-- the exact values: fractions, never rounded and never saturated
unfoldable pub exact : Meaning Fraction
exact = record {
  of_whole = whole;
  of_block = λ net kind b given before.
      let state = exact_state (state_formula net b given before.state) in
      exact_cell state (formula net kind b given state);
}
