-- What a network means over the rows of a recording, as equations between the cells of a table. Rows and tables
-- have the newest row first.
use Rattle.std.specs.Prelude.{◌≡◌, ℕ, zero, suc, ◌<◌, Bool, nat_le, if◌then◌else◌, ℤ, pos, List, [], ◌∷◌, ◌++◌, length, get_or, drop}
use Rattle.fx_fraction.specs.Fraction.{Fraction}
use Rattle.net_model.specs.declared.wires.Item.{Item}
use Rattle.net_model.specs.declared.wires.Item.TheVariants.{Input, Const, Delay, Block as OfBlock}
use Rattle.net_model.specs.Wires.{NetData, wire_at, input_place, inputs_of}
use Rattle.net_meaning.specs.Cells.{Cell, Meaning, plain, stateless, cell_at, cells_from, wire_values, values_read}
use Rattle.net_meaning.specs.Blocks.{machine, exact}

-- the newest of the rows is the first
abbrev pub is_first : List (List ℤ) → Bool
is_first rows = nat_le (length rows) 1

-- what a delay answers: in the first row its initial value, later what its source had in the row before
abbrev pub delayed : {V : Type 0} → Meaning V → List (List ℤ) → ℤ → V → V
delayed M rows init before = if is_first rows then M.of_whole init else before

-- what wire i is said to hold at the newest of the rows, where `cells ago w` is what wire w holds so many rows ago: an
-- input the row's value, a constant its value, a delay its source's value of the row before, a block what its meaning makes
-- of what it reads
unfoldable pub equation_of : {V : Type 0} → Meaning V → NetData → List (List ℤ) → (ℕ → ℕ → Cell V) → ℕ → Item → Cell V
equation_of M net rows cells i (Input lo hi) = plain M (get_or (get_or rows 0 []) (input_place net.wires i) (pos 0))
equation_of M net rows cells i (Const value) = plain M value
equation_of M net rows cells i (Delay init source) = stateless M (delayed M rows init (cells 1 source.0).value)
equation_of M net rows cells i (OfBlock b) =
    M.of_block net (wire_at net.wires i).kind b (values_read b (wire_values cells)) (cells 1 i)

-- what wire i is said to hold by the item that it has
abbrev pub equation : {V : Type 0} → Meaning V → NetData → List (List ℤ) → (ℕ → ℕ → Cell V) → ℕ → Cell V
equation M net rows cells i = equation_of M net rows cells i (wire_at net.wires i).item

-- each row has one value for each input
abbrev pub HasAllInputs : NetData → List (List ℤ) → Type 0
HasAllInputs net rows = (j : ℕ) → j < length rows → length (get_or rows j []) ≡ length (inputs_of net.wires)

-- a table is a run of the wires over the rows
pub record IsRun {V : Type 0} (M : Meaning V) (net : NetData) (rows : List (List ℤ)) (table : List (List (Cell V)))
    : Type 0 where
  -- each row has one value for each input
  pub inputs : HasAllInputs net rows
  -- the table has as many rows
  pub long : length table ≡ length rows
  -- each of them has a cell for each wire
  pub wide : (j : ℕ) → j < length rows → length (get_or table j []) ≡ length net.wires
  -- each cell meets its equation
  pub meets : (j i : ℕ) → j < length rows → i < length net.wires →
      cell_at M table j i ≡ equation M net (drop j rows) (cells_from M table j) i

-- what a network's wires hold over rows: in the machine, and in exact fractions
pub record Tables : Type 0 where
  pub in_machine : List (List (Cell ℤ))
  pub exactly : List (List (Cell Fraction))

-- these tables are the network's two runs over the rows
pub record AreRuns (net : NetData) (rows : List (List ℤ)) (tables : Tables) : Type 0 where
  pub in_machine : IsRun machine net rows tables.in_machine
  pub exactly : IsRun exact net rows tables.exactly

-- the cells of the first n wires at the newest row, above the table of the rows before
unfoldable pub row_of : {V : Type 0} → Meaning V → NetData → List (List ℤ) → List (List (Cell V)) → ℕ → List (Cell V)
row_of M net rows past zero = []
row_of M net rows past (suc n) =
    row_of M net rows past n ++ equation M net rows (cell_at M (row_of M net rows past n ∷ past)) n ∷ []

-- the table of all cells, computed row by row and wire by wire
unfoldable pub table : {V : Type 0} → Meaning V → NetData → List (List ℤ) → List (List (Cell V))
table M net [] = []
table M net (row ∷ rows) = row_of M net (row ∷ rows) (table M net rows) (length net.wires) ∷ table M net rows
