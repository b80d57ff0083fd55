-- How far the started file of a shelf in memory was read; for what such a shelf keeps and for private functions' clauses.
use Rattle.std.specs.Prelude.{ℕ, ◌<◌, ◌≤◌, List, [], length, drop, ⊤, Some, None, slice_index_or}
use Rattle.std.specs.declared.option.Option.{Option}
use Rattle.fx_io.specs.declared.stock.Place.{Place}

-- the bytes of the file at an index
abbrev pub bytes_at : List (List ℕ × List ℕ) → ℕ → List ℕ
bytes_at files k = (slice_index_or files k ([], [])).1

-- the bytes from a place on, and none where no file is started
abbrev pub left_at : List (List ℕ × List ℕ) → Option Place → List ℕ
left_at files None = []
left_at files (Some place) = drop place.at (bytes_at files place.file)

-- the place is inside one of the files, or at its end
abbrev pub IsPlace : List (List ℕ × List ℕ) → Option Place → Type 0
IsPlace files None = ⊤
IsPlace files (Some place) = (place.file < length files) × (place.at ≤ length (bytes_at files place.file))
