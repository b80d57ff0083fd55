-- What wires keep between rows: before the first row, how it changes, what it is behind rows with a table of the machine, and what
-- a wire may keep.
use Rattle.std.specs.Prelude.{◌≡◌, ℕ, ◌-◌, ◌<◌, ◌≤◌, ℤ, pos, ◌≤ℤ◌, List, map, length, get_or}
use Rattle.std.specs.List.{range_with_len}
use Rattle.fx_core.specs.Types.{Holds}
use Rattle.efx_filters.specs.States.{gain_start, gain_after, gain_value, pt1_start, pt1_after, pt1_value, dt1_start, dt1_after, dt1_value, average_start, average_after, average_value}
use Rattle.net_model.specs.declared.wires.Kind.{Kind}
use Rattle.net_model.specs.declared.wires.Block.{Block}
use Rattle.net_model.specs.declared.wires.Block.TheVariants.{Gain, Average, Pt1, Dt1}
use Rattle.net_model.specs.declared.wires.Item.{Item}
use Rattle.net_model.specs.declared.wires.Item.TheVariants.{Input, Const, Delay, Block as OfBlock}
use Rattle.net_model.specs.Wires.{NamedAxis, NetData, wire_at, kind_least, kind_greatest}
use Rattle.net_meaning.specs.Cells.{Cell, cell_at}
use Rattle.net_meaning.specs.Blocks.{machine}
use Rattle.net_eval.specs.declared.states.State.{State}
use Rattle.net_eval.specs.declared.states.State.TheVariants.{Nothing, Held, Gaining, Lagging, Differencing, Averaging}

-- ---- before the first row

-- what a block starts with
abbrev pub block_start : Block → State
block_start (Gain xty ty x k) = Gaining (gain_start xty ty k)
block_start (Average xty ty x n) = Averaging (average_start xty ty n)
block_start (Pt1 xty ty x teq k) = Lagging (pt1_start xty ty teq k)
block_start (Dt1 second xty ty x teq k) = Differencing (dt1_start second xty ty teq k)
block_start other = Nothing

-- what wire i keeps before the first row, by its item: a delay its first answer
abbrev pub item_start : NetData → ℕ → Item → State
item_start net i (Input lo hi) = Nothing
item_start net i (Const value) = Nothing
item_start net i (Delay init source) = Held init
item_start net i (OfBlock b) = block_start b

-- what wire i keeps before the first row
abbrev pub start_of : NetData → ℕ → State
start_of net i = item_start net i (wire_at net.wires i).item

-- what the first n wires keep before the first row
unfoldable pub starts_of : NetData → ℕ → List State
starts_of net n = map (start_of net) (range_with_len 0 n)

-- the numbers of a block are such that it can start
abbrev pub CanStart : Block → Type 0
CanStart (Average xty ty x n) = (1 ≤ n) × (n ≤ 1024)
CanStart (Pt1 xty ty x teq k) = teq ≤ 65536
CanStart (Dt1 second xty ty x teq k) = teq ≤ 65536
CanStart other = Unit {0}

-- ---- one state

-- state number i, from 0
abbrev pub state_at : List State → ℕ → State
state_at states i = get_or states i Nothing

-- what a delay answers; 0 where nothing is held
abbrev pub held_in : State → ℤ
held_in Nothing = pos 0
held_in (Held value) = value
held_in (Gaining gain) = pos 0
held_in (Lagging lag) = pos 0
held_in (Differencing lag) = pos 0
held_in (Averaging average) = pos 0

-- what a delay keeps when it is handed a value; what holds nothing stays
abbrev pub holding : State → ℤ → State
holding Nothing value = Nothing
holding (Held old) value = Held value
holding (Gaining gain) value = Gaining gain
holding (Lagging lag) value = Lagging lag
holding (Differencing lag) value = Differencing lag
holding (Averaging average) value = Averaging average

-- what a filter answers in a row with this input; 0 where there is no filter
abbrev pub filter_value : State → ℤ → ℤ
filter_value Nothing input = pos 0
filter_value (Held value) input = pos 0
filter_value (Gaining gain) input = gain_value gain input
filter_value (Lagging lag) input = pt1_value lag input
filter_value (Differencing lag) input = dt1_value lag input
filter_value (Averaging average) input = average_value average input

-- a filter behind that row
abbrev pub filter_after : State → ℤ → State
filter_after Nothing input = Nothing
filter_after (Held value) input = Held value
filter_after (Gaining gain) input = Gaining (gain_after gain input)
filter_after (Lagging lag) input = Lagging (pt1_after lag input)
filter_after (Differencing lag) input = Differencing (dt1_after lag input)
filter_after (Averaging average) input = Averaging (average_after average input)

-- the input is one of the type that a filter takes
abbrev pub TakesInput : State → ℤ → Type 0
TakesInput Nothing input = Unit {0}
TakesInput (Held value) input = Unit {0}
TakesInput (Gaining gain) input = Holds gain.x input
TakesInput (Lagging lag) input = Holds lag.x input
TakesInput (Differencing lag) input = Holds lag.x input
TakesInput (Averaging average) input = Holds average.x input

-- a filter of the same types and numbers before its first row
abbrev pub restarted : State → State
restarted Nothing = Nothing
restarted (Held value) = Held value
restarted (Gaining gain) = Gaining (gain_start gain.x gain.o gain.k)
restarted (Lagging lag) = Lagging (pt1_start lag.x lag.o lag.teq lag.k)
restarted (Differencing lag) = Differencing (dt1_start lag.second lag.x lag.o lag.teq lag.k)
restarted (Averaging average) = Averaging (average_start average.x average.o average.n)

-- what is kept for an item, put back to before the first row
abbrev pub put_back : Item → State → State
put_back (Input lo hi) state = restarted state
put_back (Const value) state = restarted state
put_back (Delay init source) state = Held init
put_back (OfBlock b) state = restarted state

-- ---- behind rows with this table, whose newest row comes first

-- the value of a wire so many rows ago, 0 before the first row
abbrev pub value_ago : List (List (Cell ℤ)) → ℕ → ℕ → ℤ
value_ago cells wire ago = (cell_at machine cells ago wire).value

-- the values of a wire in the last n rows, newest first
abbrev pub last_values : List (List (Cell ℤ)) → ℕ → ℕ → List ℤ
last_values cells wire n = map (value_ago cells wire) (range_with_len 0 n)

-- what a block of wire i keeps: a lag its state Y and the input of the newest row, a differentiating one also the input of the
-- row before it, an average over n rows the inputs of the last n - 1
abbrev pub block_kept : List (List (Cell ℤ)) → ℕ → Block → State
block_kept cells i (Gain xty ty x k) = Gaining (gain_start xty ty k)
block_kept cells i (Average xty ty x n) =
    Averaging (record { x = xty; o = ty; n = n; window = last_values cells x.0 (n - 1) })
block_kept cells i (Pt1 xty ty x teq k) = Lagging (record {
  x = xty;
  o = ty;
  teq = teq;
  k = k;
  y = (cell_at machine cells 0 i).state;
  x1 = value_ago cells x.0 0;
})
block_kept cells i (Dt1 second xty ty x teq k) = Differencing (record {
  second = second;
  x = xty;
  o = ty;
  teq = teq;
  k = k;
  y = (cell_at machine cells 0 i).state;
  x1 = value_ago cells x.0 0;
  x2 = value_ago cells x.0 1;
})
block_kept cells i other = Nothing

-- ---- what a wire may keep

-- a delay on a wire of this kind may keep a value of the kind, in a network with these axes
abbrev pub MayHold : List NamedAxis → Kind → State → Type 0
MayHold axes kind state =
    (state ≡ Held (held_in state))
    × (kind_least axes kind ≤ℤ held_in state)
    × (held_in state ≤ℤ kind_greatest axes kind)

-- wire i may keep this, by its item; a block a filter of its own types and numbers, which put back is what the block starts with
abbrev pub MayKeep : NetData → ℕ → Item → State → Type 0
MayKeep net i (Input lo hi) state = state ≡ Nothing
MayKeep net i (Const value) state = state ≡ Nothing
MayKeep net i (Delay init source) state = MayHold net.axes (wire_at net.wires i).kind state
MayKeep net i (OfBlock b) state = restarted state ≡ block_start b

-- there is a state for each wire, and it is one that the wire may keep
pub record AreKept (net : NetData) (states : List State) : Type 0 where
  pub one_each : length states ≡ length net.wires
  pub each : (i : ℕ) → i < length net.wires → MayKeep net i (wire_at net.wires i).item (state_at states i)
