-- Which input stands in each column of a header: a table by the column's number. These are for private functions'
-- clauses and for what a header keeps.
use Rattle.std.specs.Prelude.{ℕ, ◌≡◌, ◌≢◌, ◌<◌, List, length, get_or, Option, Some, None}
use Rattle.fx_core.specs.declared.word_type.Ty.TheVariants.{U8}
use Rattle.net_model.specs.declared.wires.Kind.TheVariants.{Num}
use Rattle.rec_csv.specs.declared.columns.Column.{Column}
use Rattle.rec_csv.specs.Headers.{HeaderData}

-- the column that is read where there is none
abbrev pub no_column : Column
no_column = record { place = 0; wire = record { 0 = 0 }; kind = Num U8 0 }

-- the column of input number k, from 0
abbrev pub column_at : List Column → ℕ → Column
column_at columns k = get_or columns k no_column

-- the inputs' columns lie within a width, and no two inputs have one column
pub record AreApart (columns : List Column) (width : ℕ) : Type 0 where
  pub within : (k : ℕ) → k < length columns → (column_at columns k).place < width
  pub apart : (j k : ℕ) → j < k → k < length columns → (column_at columns j).place ≢ (column_at columns k).place

-- the first n inputs stand each in the slot of its column, and in no other slot stands anything
pub record AreSlots (n : ℕ) (columns : List Column) (slots : List (Option ℕ)) : Type 0 where
  pub stands : (k : ℕ) → k < n → ((column_at columns k).place < length slots) × (get_or slots (column_at columns k).place None ≡ Some k)
  pub no_other : (place k : ℕ) → get_or slots place None ≡ Some k → (k < n) × ((column_at columns k).place ≡ place)

-- each input stands in the slot of its column, and in no other slot stands anything
abbrev pub IsTable : List Column → List (Option ℕ) → Type 0
IsTable columns slots = AreSlots (length columns) columns slots

-- the header of these columns, with a field for each slot
abbrev pub header_with : List Column → List (Option ℕ) → HeaderData
header_with columns slots = record { width = length slots; columns = columns }
