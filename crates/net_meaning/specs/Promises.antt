-- The words of the promise about recordings: rows keep to the declared ranges, and nothing saturates.
use Rattle.std.specs.Prelude.{◌≡◌, ℕ, ◌<◌, ℤ, pos, ◌≤ℤ◌, List, [], length, get_or}
use Rattle.fx_fraction.specs.Fraction.{Fraction}
use Rattle.fx_core.specs.Values.{Divides}
use Rattle.net_model.specs.declared.wires.Item.{Item}
use Rattle.net_model.specs.declared.wires.Item.TheVariants.{Input, Const, Delay, Block as OfBlock}
use Rattle.net_model.specs.declared.wires.Wire.{Wire}
use Rattle.net_model.specs.Wires.{NetData, wire_at, input_place, inputs_of, kind_least, kind_greatest}
use Rattle.net_meaning.specs.Cells.{Cell, cell_at, cells_from, wire_values, values_read}
use Rattle.net_meaning.specs.Blocks.{machine, exact, quotient_of, as_fractions, state_least, state_greatest}
use Rattle.net_meaning.specs.Runs.{Tables}

-- the row's value of an input lies in the declared range
abbrev pub KeepsRange : Item → ℤ → Type 0
KeepsRange (Input lo hi) v = (lo ≤ℤ v) × (v ≤ℤ hi)
KeepsRange (Const value) v = Unit {0}
KeepsRange (Delay init source) v = Unit {0}
KeepsRange (OfBlock b) v = Unit {0}

-- a row keeps to the declared ranges
pub record KeepsRow (net : NetData) (row : List ℤ) : Type 0 where
  -- it has one value for each input
  pub one_each : length row ≡ length (inputs_of net.wires)
  -- each lies in its input's declared range
  pub ranges : (i : ℕ) → i < length net.wires → KeepsRange (wire_at net.wires i).item (get_or row (input_place net.wires i) (pos 0))

-- all rows keep to the declared ranges
abbrev pub Keeps : NetData → List (List ℤ) → Type 0
Keeps net rows = (j : ℕ) → j < length rows → KeepsRow net (get_or rows j [])

-- a wire's block doesn't divide by 0 where wires had these values so many rows ago
abbrev pub ItemDivides : NetData → Wire → Item → (ℕ → ℕ → Fraction) → Type 0
ItemDivides net w (Input lo hi) values = Unit {0}
ItemDivides net w (Const value) values = Unit {0}
ItemDivides net w (Delay init source) values = Unit {0}
ItemDivides net w (OfBlock b) values = Divides (quotient_of net w.kind b (values_read b values))

-- a wire w fits at one row, where m and e are what wires held so many rows ago in the machine and in exact fractions, and
-- `cell` is what w itself holds in the machine; a wire without a state Y has the state 0
pub record FitsAt (net : NetData) (w : Wire) (m : ℕ → ℕ → Cell ℤ) (e : ℕ → ℕ → Cell Fraction) (cell : Cell ℤ) : Type 0 where
  -- its divisor isn't 0 in the machine
  pub machine_divides : ItemDivides net w w.item (as_fractions (wire_values m))
  -- nor is it in exact fractions
  pub exact_divides : ItemDivides net w w.item (wire_values e)
  -- its value before saturation isn't below the least value of its kind
  pub value_low : kind_least net.axes w.kind ≤ℤ cell.value_unsaturated
  -- nor is it above the greatest, so that saturation doesn't change it
  pub value_high : cell.value_unsaturated ≤ℤ kind_greatest net.axes w.kind
  -- its state before saturation isn't below the least state
  pub state_low : state_least ≤ℤ cell.state_unsaturated
  -- nor is it above the greatest, so that saturation doesn't change it
  pub state_high : cell.state_unsaturated ≤ℤ state_greatest

-- over the rows nothing saturates and no divisor is 0: each wire fits at each row
abbrev pub Fits : NetData → List (List ℤ) → Tables → Type 0
Fits net rows tables =
    (j i : ℕ) → j < length rows → i < length net.wires →
    FitsAt net (wire_at net.wires i) (cells_from machine tables.in_machine j) (cells_from exact tables.exactly j)
    (cell_at machine tables.in_machine j i)
