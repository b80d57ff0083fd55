-- What reading a whole file answers.
use Rattle.std.specs.Prelude.{◌≡◌, ℕ, ◌<◌, ◌≤◌, List, [], length, drop, ⊤, Some, None, Result, Ok, Err}
use Rattle.std.specs.declared.option.Option.{Option}
use Rattle.fx_io.specs.Causes.{Rose}
use Rattle.fx_io.specs.Outside.{bytes_of}
use Rattle.fx_io.specs.declared.outside.ShelfFault.{ShelfFault}
use Rattle.fx_io.specs.declared.outside.ShelfFault.TheVariants.{Failed, OutOfMemory as ShelfOutOfMemory}
use Rattle.fx_io.specs.declared.whole.ReadAllFault.{ReadAllFault}
use Rattle.fx_io.specs.declared.whole.ReadAllFault.TheVariants.{ReadFault, TooLong, OutOfMemory}

-- the fault that a shelf's fault is, where a whole file is read
abbrev pub fault_of : ShelfFault → ReadAllFault
fault_of Failed = ReadFault
fault_of ShelfOutOfMemory = OutOfMemory

-- these are all bytes of the named file, where the files are told
abbrev pub IsWhole : Option (List (List ℕ × List ℕ)) → List ℕ → List ℕ → Type 0
IsWhole None name bytes = ⊤
IsWhole (Some files) name bytes = bytes ≡ bytes_of files name

-- the named file has more bytes than the limit, where the files are told
abbrev pub IsTooLong : Option (List (List ℕ × List ℕ)) → List ℕ → ℕ → Type 0
IsTooLong None name limit = ⊤
IsTooLong (Some files) name limit = limit < length (bytes_of files name)

-- the named file was read up to its first n bytes and no further, where the files are told
abbrev pub IsReadUpTo : Option (List (List ℕ × List ℕ)) → List ℕ → ℕ → Option (List ℕ) → Type 0
IsReadUpTo None name n left = ⊤
IsReadUpTo (Some files) name n left = left ≡ Some (drop n (bytes_of files name))

-- nothing of the started file is left to read, where the files are told
abbrev pub IsReadOut : Option (List (List ℕ × List ℕ)) → Option (List ℕ) → Type 0
IsReadOut None left = ⊤
IsReadOut (Some files) left = left ≡ Some []

-- Ok gives all bytes, and at most the limit; `TooLong` comes only where there are more
abbrev pub ReadsAll : {T : Type 0} → (T → List ℕ) → Option (List (List ℕ × List ℕ)) → List ℕ → ℕ → Result T ReadAllFault → Type 0
ReadsAll items files name limit (Ok v) = (length (items v) ≤ limit) × IsWhole files name (items v)
ReadsAll items files name limit (Err TooLong) = IsTooLong files name limit
ReadsAll items files name limit (Err ReadFault) = ⊤
ReadsAll items files name limit (Err OutOfMemory) = ⊤

-- `ReadFault` comes only where the faults rose, and the name that failed is then this file's; no other answer changes that name
abbrev pub HasReadCause : {T : Type 0} → ℕ → ℕ → List ℕ → List ℕ → List ℕ → Result T ReadAllFault → Type 0
HasReadCause before now name old new (Ok v) = (before ≤ now) × (new ≡ old)
HasReadCause before now name old new (Err ReadFault) = (before ≤ now) × Rose before now × (new ≡ name)
HasReadCause before now name old new (Err TooLong) = (before ≤ now) × (new ≡ old)
HasReadCause before now name old new (Err OutOfMemory) = (before ≤ now) × (new ≡ old)
