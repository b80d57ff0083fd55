-- What a wire holds at one row, in any kind of value, and how such values are made.
use Rattle.std.specs.Prelude.{ℕ, ◌+◌, ℤ, pos, List, [], get_or}
use Rattle.net_model.specs.declared.wires.Kind.{Kind}
use Rattle.net_model.specs.declared.wires.Block.{Block}
use Rattle.net_model.specs.Wires.{NetData, argument_of}

-- what a wire holds at one row
pub record Cell (V : Type 0) : Type 0 where
  -- its block's state behind the row
  pub state : V
  -- that state before saturation
  pub state_unsaturated : V
  -- its value
  pub value : V
  -- that value before saturation
  pub value_unsaturated : V

-- how values of one kind are made
pub record Meaning (V : Type 0) : Type 0 where
  -- of a whole number
  pub of_whole : ℤ → V
  -- by a block, from the network, the kind of its own wire, what it reads and its cell of the row before; `given p ago` is
  -- the value of argument number p so many rows ago, and 0 before the first row
  pub of_block : NetData → Kind → Block → (ℕ → ℕ → V) → Cell V → Cell V

-- a wire that just has a value; its state is 0
abbrev pub stateless : {V : Type 0} → Meaning V → V → Cell V
stateless M v = record {
  state = M.of_whole (pos 0);
  state_unsaturated = M.of_whole (pos 0);
  value = v;
  value_unsaturated = v;
}

-- a wire that just has a whole number
abbrev pub plain : {V : Type 0} → Meaning V → ℤ → Cell V
plain M z = stateless M (M.of_whole z)

-- the cell of a wire, so many rows ago, in a table whose newest row comes first; all is 0 before the first row
abbrev pub cell_at : {V : Type 0} → Meaning V → List (List (Cell V)) → ℕ → ℕ → Cell V
cell_at M table ago wire = get_or (get_or table ago []) wire (plain M (pos 0))

-- what each wire held so many rows before row j
abbrev pub cells_from : {V : Type 0} → Meaning V → List (List (Cell V)) → ℕ → ℕ → ℕ → Cell V
cells_from M table j ago wire = cell_at M table (j + ago) wire

-- the value alone of what wires held so many rows ago
abbrev pub wire_values : {V : Type 0} → (ℕ → ℕ → Cell V) → ℕ → ℕ → V
wire_values cells ago wire = (cells ago wire).value

-- what a block reads where wires had these values: that of its argument number p, so many rows ago
abbrev pub values_read : {V : Type 0} → Block → (ℕ → ℕ → V) → ℕ → ℕ → V
values_read b values p ago = values ago (argument_of b p)
