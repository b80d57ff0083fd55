-- What a shelf's and a sink's calls do to the bytes that they tell.
use Rattle.std.specs.Prelude.{◌≡◌, ◌==◌, ℕ, Bool, true, false, ◌≤◌, List, [], ◌∷◌, length, take, ⊤, Some, None, Result, Ok, Err, if◌then◌else◌}
use Rattle.std.specs.declared.option.Option.{Option}
use Rattle.std.specs.List.{list_any}
use Rattle.std.specs.Str.{bytes_eq}
use Rattle.std.specs.Io.KnownBytes.{Appends}
use Rattle.fx_io.specs.declared.outside.ShelfFault.{ShelfFault}
use Rattle.fx_io.specs.declared.outside.ShelfFault.TheVariants.{Failed, OutOfMemory}

-- the bytes of the first file of this name, and none where no file has it
abbrev pub bytes_of : List (List ℕ × List ℕ) → List ℕ → List ℕ
bytes_of [] name = []
bytes_of (file ∷ files) name = if bytes_eq file.0 name then file.1 else bytes_of files name

-- whether a file has this name
abbrev pub has_file : List (List ℕ × List ℕ) → List ℕ → Bool
has_file files name = list_any (λ file. bytes_eq file.0 name) files

-- whether the call of this number is among those that are to fail
abbrev pub is_listed : List ℕ → ℕ → Bool
is_listed failing call = list_any (λ k. k == call) failing

-- `Failed` comes exactly where the test says so; memory may run out at any time
abbrev pub FailsWhere : {T : Type 0} → Bool → Result T ShelfFault → Type 0
FailsWhere fails (Ok v) = fails ≡ false
FailsWhere fails (Err Failed) = fails ≡ true
FailsWhere fails (Err OutOfMemory) = ⊤

-- all bytes of the named file are still to come, where the files are told
abbrev pub IsStarted : Option (List (List ℕ × List ℕ)) → List ℕ → Option (List ℕ) → Type 0
IsStarted None name left = ⊤
IsStarted (Some files) name left = left ≡ Some (bytes_of files name)

-- `start` sets the name in use where it answers Ok or `Failed`
abbrev pub SetsName : {T : Type 0} → List ℕ → List ℕ → List ℕ → Result T ShelfFault → Type 0
SetsName name old new (Ok v) = new ≡ name
SetsName name old new (Err Failed) = new ≡ name
SetsName name old new (Err OutOfMemory) = new ≡ old

-- the piece was appended at Ok, and a part from its front at an error
abbrev pub WritesPiece : {T E : Type 0} → Option (List ℕ) → Option (List ℕ) → List ℕ → Result T E → Type 0
WritesPiece old new piece (Ok v) = Appends old new piece
WritesPiece old new piece (Err e) = (k : ℕ) × (k ≤ length piece) × Appends old new (take k piece)
