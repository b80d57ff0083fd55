-- A printed run: a line with the names of the outputs, and one line for each row with their values; `behind` is for the
-- clauses of private functions alone.
use Rattle.std.specs.Prelude.{ℕ, zero, suc, ℤ, List, [], ◌∷◌, ◌++◌, map}
use Rattle.std.specs.Fmt.{signed_decimal}
use Rattle.net_model.specs.declared.wires.WireNo.{WireNo}
use Rattle.net_model.specs.Wires.{NetData, wire_at}
use Rattle.net_meaning.specs.Cells.{Cell, cell_at}
use Rattle.net_meaning.specs.Blocks.{machine}

-- texts behind a first one, each behind a comma
abbrev pub behind_commas : List (List ℕ) → List ℕ
behind_commas [] = []
behind_commas (piece ∷ pieces) = 44 ∷ piece ++ behind_commas pieces

-- a text that is joined behind so many others
abbrev pub behind : ℕ → List ℕ → List ℕ
behind zero piece = piece
behind (suc place) piece = 44 ∷ piece

-- texts joined by commas
abbrev pub joined : List (List ℕ) → List ℕ
joined [] = []
joined (piece ∷ pieces) = piece ++ behind_commas pieces

-- a line of texts joined by commas
abbrev pub comma_line : List (List ℕ) → List ℕ
comma_line pieces = joined pieces ++ 10 ∷ []

-- the line of the outputs' names
abbrev pub names_line : NetData → List ℕ
names_line net = comma_line (map (λ o. (wire_at net.wires o.0).name) net.outs)

-- a line of values, in decimal
abbrev pub values_line : List ℤ → List ℕ
values_line values = comma_line (map signed_decimal values)

-- the values of the outputs at the newest row of a table of cells
abbrev pub outputs_at : List WireNo → List (List (Cell ℤ)) → List ℤ
outputs_at outs table = map (λ o. (cell_at machine table 0 o.0).value) outs

-- the lines of a table's rows; a table has the newest row first, and the newest line is the last
unfoldable pub rows_text : List WireNo → List (List (Cell ℤ)) → List ℕ
rows_text outs [] = []
rows_text outs (cells ∷ table) = rows_text outs table ++ values_line (outputs_at outs (cells ∷ table))

-- the printed run of a network over a table of what its wires hold
abbrev pub run_text : NetData → List (List (Cell ℤ)) → List ℕ
run_text net table = names_line net ++ rows_text net.outs table
