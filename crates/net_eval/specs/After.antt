-- What an evaluator keeps between rows, and what it answers. Rows and tables have the newest row first.
use Rattle.std.specs.Prelude.{◌≡◌, ℕ, List, [], ◌∷◌, map, length, ℤ}
use Rattle.std.specs.List.{range_with_len}
use Rattle.net_model.specs.declared.wires.Item.{Item}
use Rattle.net_model.specs.declared.wires.Item.TheVariants.{Input, Const, Delay, Block as OfBlock}
use Rattle.net_model.specs.Wires.{NetData, wire_at}
use Rattle.net_meaning.specs.Cells.{Cell, cell_at}
use Rattle.net_meaning.specs.Blocks.{machine}
use Rattle.net_meaning.specs.Runs.{table}
use Rattle.net_eval.specs.declared.states.State.{State}
use Rattle.net_eval.specs.declared.states.State.TheVariants.{Nothing, Held}
use Rattle.net_eval.specs.States.{block_kept, value_ago}

-- what an evaluator holds: its network, and what it keeps of the rows so far
pub record PlanData : Type 0 where
  pub net : NetData
  pub kept : List State

-- what a delay answers in the next row: before the first one its first value, later what its source has in the newest row
abbrev pub held_after : ℤ → List (List ℤ) → ℤ → ℤ
held_after init [] newest = init
held_after init (row ∷ rows) newest = newest

-- what is kept for wire i of the rows so far and their table, by its item
abbrev pub kept_by : NetData → List (List ℤ) → List (List (Cell ℤ)) → ℕ → Item → State
kept_by net rows cells i (Input lo hi) = Nothing
kept_by net rows cells i (Const value) = Nothing
kept_by net rows cells i (Delay init source) = Held (held_after init rows (value_ago cells source.0 0))
kept_by net rows cells i (OfBlock b) = block_kept cells i b

-- what is kept for wire i
abbrev pub kept_on : NetData → List (List ℤ) → List (List (Cell ℤ)) → ℕ → State
kept_on net rows cells i = kept_by net rows cells i (wire_at net.wires i).item

-- what is kept for the first n wires
unfoldable pub kept_of : NetData → List (List ℤ) → List (List (Cell ℤ)) → ℕ → List State
kept_of net rows cells n = map (kept_on net rows cells) (range_with_len 0 n)

-- this is what an evaluator keeps after the rows
abbrev pub IsAfter : NetData → List (List ℤ) → List State → Type 0
IsAfter net rows kept = kept ≡ kept_of net rows (table machine net rows) (length net.wires)

-- the values of the output wires at the newest row
unfoldable pub outputs_of : NetData → List (List ℤ) → List ℤ
outputs_of net rows = map (λ o. (cell_at machine (table machine net rows) 0 o.0).value) net.outs
