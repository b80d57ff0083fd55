-- The steps of an evaluator, one for each wire, and what they make of one row: values, and states behind it. These are for what a
-- plan keeps and for private functions' clauses.
use Rattle.std.specs.Prelude.{◌≡◌, ℕ, zero, suc, ◌-◌, ◌*◌, ◌<◌, ◌≤◌, ◌≤ℤ◌, ℤ, pos, List, [], ◌∷◌, ◌++◌, map, length, get_or, set}
use Rattle.std.specs.List.{range_with_len}
use Rattle.fx_fraction.specs.Fraction.{whole}
use Rattle.fx_core.specs.Types.{Holds}
use Rattle.ifx_search.specs.Positions.{position, position_value}
use Rattle.ifx_curves.specs.Curves.{curve_value}
use Rattle.mfx_arith.specs.Calls.{arith_value}
use Rattle.mfx_arith.specs.Operations.{Takes, HasArguments}
use Rattle.mfx_scaled.specs.Calls.{scaled_value}
use Rattle.mfx_scaled.specs.Operations.{HasArguments as HasScaledArguments}
use Rattle.net_model.specs.declared.wires.Kind.{Kind}
use Rattle.net_model.specs.declared.wires.Block.{Block}
use Rattle.net_model.specs.declared.wires.Block.TheVariants.{Arith, Scaled, Gain, Average, Pt1, Dt1, Search, Curve, IntCurve}
use Rattle.net_model.specs.declared.wires.Item.{Item}
use Rattle.net_model.specs.declared.wires.Item.TheVariants.{Input, Const, Delay, Block as OfBlock}
use Rattle.net_model.specs.Wires.{NetData, axis_at, table_at, wire_at, input_place}
use Rattle.net_model.specs.Families.{most_shift}
use Rattle.net_model.specs.Validity.{IsValid}
use Rattle.net_meaning.specs.Blocks.{points_of}
use Rattle.net_eval.specs.declared.resolving.Handover.{Handover}
use Rattle.net_eval.specs.declared.states.State.{State}
use Rattle.net_eval.specs.declared.steps.Step.{Step}
use Rattle.net_eval.specs.declared.steps.Step.TheVariants.{Read, Fixed, Delay as DelayStep, Arith as ArithStep, Scaled as ScaledStep, Filter as FilterStep, Search as SearchStep, Curve as CurveStep, IntCurve as IntCurveStep}
use Rattle.net_eval.specs.States.{state_at, held_in, holding, filter_value, filter_after, TakesInput, AreKept}

-- ---- which steps a network has

-- the step of a block on a wire of a kind
abbrev pub block_step : NetData → Kind → Block → Step
block_step net kind (Arith op v x y z shift) = ArithStep op v x.0 y.0 z.0 shift
block_step net kind (Scaled op v x y) = ScaledStep op v x.0 y.0 (points_of net kind (Scaled op v x y))
block_step net kind (Gain xty ty x k) = FilterStep x.0
block_step net kind (Average xty ty x n) = FilterStep x.0
block_step net kind (Pt1 xty ty x teq k) = FilterStep x.0
block_step net kind (Dt1 second xty ty x teq k) = FilterStep x.0
block_step net kind (Search ty x axis) = SearchStep x.0 axis
block_step net kind (Curve op dp table) = CurveStep op dp.0 table
block_step net kind (IntCurve op x axis table) = IntCurveStep op x.0 axis table

-- the step of wire i, by its item
abbrev pub item_step : NetData → ℕ → Item → Step
item_step net i (Input lo hi) = Read (input_place net.wires i)
item_step net i (Const value) = Fixed value
item_step net i (Delay init source) = DelayStep
item_step net i (OfBlock b) = block_step net (wire_at net.wires i).kind b

-- the step of wire i
abbrev pub step_of : NetData → ℕ → Step
step_of net i = item_step net i (wire_at net.wires i).item

-- the steps of the first n wires
unfoldable pub steps_of : NetData → ℕ → List Step
steps_of net n = map (step_of net) (range_with_len 0 n)

-- step number i, from 0
abbrev pub step_at : List Step → ℕ → Step
step_at steps i = get_or steps i (Read 0)

-- what delay n is handed behind each row: its source's value; no other item is handed anything
abbrev pub handover_of : ℕ → Item → List Handover
handover_of n (Input lo hi) = []
handover_of n (Const value) = []
handover_of n (Delay init source) = record { delay = n; source = source.0 } ∷ []
handover_of n (OfBlock b) = []

-- what the delays among the first n wires are handed, in the order of the wires
unfoldable pub handovers_of : NetData → ℕ → List Handover
handovers_of net zero = []
handovers_of net (suc n) = handovers_of net n ++ handover_of n (wire_at net.wires n).item

-- these are the steps and the handovers of a valid network, and states that its wires may keep
pub record ArePlanned (net : NetData) (steps : List Step) (handovers : List Handover) (states : List State) : Type 0 where
  pub valid : IsValid net
  pub resolved : steps ≡ steps_of net (length net.wires)
  pub handed : handovers ≡ handovers_of net (length net.wires)
  pub kept : AreKept net states

-- ---- what they make of a row

-- value number i, from 0
abbrev pub value_at : List ℤ → ℕ → ℤ
value_at values i = get_or values i (pos 0)

-- what a step of a network gives, from what its wire keeps, the row's inputs and the values of the earlier wires
abbrev pub step_value : NetData → Step → State → List ℤ → List ℤ → ℤ
step_value net (Read place) state inputs values = value_at inputs place
step_value net (Fixed value) state inputs values = value
step_value net DelayStep state inputs values = held_in state
step_value net (ArithStep op v x y z shift) state inputs values =
    arith_value op v.o (value_at values x) (value_at values y) (value_at values z) shift
step_value net (ScaledStep op v x y points) state inputs values =
    scaled_value op v.o (value_at values x) (value_at values y) points
step_value net (FilterStep x) state inputs values = filter_value state (value_at values x)
step_value net (SearchStep x axis) state inputs values =
    position_value (axis_at net.axes axis).points (value_at values x)
step_value net (CurveStep op x table) state inputs values =
    curve_value op (table_at net.tables table).values (whole (value_at values x))
step_value net (IntCurveStep op x axis table) state inputs values =
    curve_value op (table_at net.tables table).values (position (axis_at net.axes axis).points (whole (value_at values x)))

-- what its wire keeps behind the step, from what it kept and the values of the earlier wires
abbrev pub state_behind : Step → State → List ℤ → State
state_behind (Read place) state values = state
state_behind (Fixed value) state values = state
state_behind DelayStep state values = state
state_behind (ArithStep op v x y z shift) state values = state
state_behind (ScaledStep op v x y points) state values = state
state_behind (FilterStep x) state values = filter_after state (value_at values x)
state_behind (SearchStep x axis) state values = state
state_behind (CurveStep op x table) state values = state
state_behind (IntCurveStep op x axis table) state values = state

-- the values of the first n steps of a network, from what their wires keep
unfoldable pub values_of : NetData → List Step → List State → List ℤ → ℕ → List ℤ
values_of net steps states inputs zero = []
values_of net steps states inputs (suc n) =
    let values = values_of net steps states inputs n in
    values ++ step_value net (step_at steps n) (state_at states n) inputs values ∷ []

-- what wire i keeps behind its step
abbrev pub kept_behind : NetData → List Step → List State → List ℤ → ℕ → State
kept_behind net steps states inputs i =
    state_behind (step_at steps i) (state_at states i) (values_of net steps states inputs i)

-- what the first n wires keep behind their steps
unfoldable pub states_of : NetData → List Step → List State → List ℤ → ℕ → List State
states_of net steps states inputs n = map (kept_behind net steps states inputs) (range_with_len 0 n)

-- what a wire of this item keeps behind the row, from what it keeps behind its step and the values of all wires
abbrev pub handed : Item → List ℤ → State → State
handed (Input lo hi) values state = state
handed (Const value) values state = state
handed (Delay init source) values state = holding state (value_at values source.0)
handed (OfBlock b) values state = state

-- the states where the delays were handed their sources' values
unfoldable pub handed_over : List Handover → List ℤ → List State → List State
handed_over [] values states = states
handed_over (h ∷ handovers) values states =
    let held = holding (state_at states h.delay) (value_at values h.source) in
    handed_over handovers values (set states h.delay held)

-- handover number k, from 0
abbrev pub handover_at : List Handover → ℕ → Handover
handover_at handovers k = get_or handovers k (record { delay = 0; source = 0 })

-- there are so many wires as handovers speak of
abbrev pub AreAmong : List Handover → ℕ → Type 0
AreAmong handovers n =
    (k : ℕ) → k < length handovers → ((handover_at handovers k).delay < n) × ((handover_at handovers k).source < n)

-- a step of a network can be taken: its arguments are there, in the types of its routine, which takes its types, its shift and its
-- points; its axis and its table are there and as long as each other, and a position isn't behind the last value
abbrev pub IsReady : NetData → Step → State → List ℤ → List ℤ → Type 0
IsReady net (Read place) state inputs values = place < length inputs
IsReady net (Fixed value) state inputs values = Unit {0}
IsReady net DelayStep state inputs values = Unit {0}
IsReady net (ArithStep op v x y z shift) state inputs values =
    (x < length values)
    × (y < length values)
    × (z < length values)
    × Takes op v
    × HasArguments op v (value_at values x) (value_at values y) (value_at values z)
    × (shift ≤ most_shift)
IsReady net (ScaledStep op v x y points) state inputs values =
    (x < length values)
    × (y < length values)
    × HasScaledArguments op v (value_at values x) (value_at values y)
    × (points.a ≤ 15)
    × (points.b ≤ 15)
    × (points.c ≤ 15)
IsReady net (FilterStep x) state inputs values = (x < length values) × TakesInput state (value_at values x)
IsReady net (SearchStep x axis) state inputs values =
    (x < length values) × (axis < length net.axes) × Holds (axis_at net.axes axis).ty (value_at values x)
IsReady net (CurveStep op x table) state inputs values =
    (x < length values)
    × (table < length net.tables)
    × (pos 0 ≤ℤ value_at values x)
    × (value_at values x ≤ℤ pos (65536 * (length (table_at net.tables table).values - 1)))
IsReady net (IntCurveStep op x axis table) state inputs values =
    (x < length values)
    × (axis < length net.axes)
    × (table < length net.tables)
    × (length (axis_at net.axes axis).points ≡ length (table_at net.tables table).values)
    × Holds (axis_at net.axes axis).ty (value_at values x)

-- each step is ready when its turn comes
abbrev pub AreReady : NetData → List Step → List State → List ℤ → Type 0
AreReady net steps states inputs =
    (i : ℕ) → i < length steps →
    IsReady net (step_at steps i) (state_at states i) inputs (values_of net steps states inputs i)
