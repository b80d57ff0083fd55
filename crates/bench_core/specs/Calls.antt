-- What a sink and a shelf tell of a call: how they stood before it, and how they stand now.
use Rattle.std.specs.Prelude.{ℕ, List, take, ◌⊎◌, Option}
use Rattle.std.specs.Io.KnownBytes.{Appends}
use Rattle.fx_io.specs.Causes.{Rose}

-- a sink over a call: all that it had taken before and has taken now, where that is told, and its count of faults before
-- and now
pub record SinkCall : Type 0 where
  pub old : Option (List ℕ)
  pub new : Option (List ℕ)
  pub before : ℕ
  pub now : ℕ

-- a shelf over a call: its count of faults before and now, and the name of the file that failed last
pub record ShelfCall : Type 0 where
  pub before : ℕ
  pub now : ℕ
  pub failed : List ℕ

-- the call of a sink that stood so before, and stands so now
abbrev pub sink_call : {T : Type 0} → (T → Option (List ℕ)) → (T → ℕ) → T → T → SinkCall
sink_call written faults before now = record { old = written before; new = written now; before = faults before; now = faults now }

-- the call of a shelf that stood so before, and stands so now
abbrev pub shelf_call : {T : Type 0} → (T → ℕ) → (T → List ℕ) → T → T → ShelfCall
shelf_call faults failed before now = record { before = faults before; now = faults now; failed = failed now }

-- these bytes were written, where what is written is told
abbrev pub Writes : SinkCall → List ℕ → Type 0
Writes out bytes = Appends out.old out.new bytes

-- a front of these bytes was written, where what is written is told
abbrev pub WritesFront : SinkCall → List ℕ → Type 0
WritesFront out bytes = (k : ℕ) × Writes out (take k bytes)

-- the whole text was written, or a front of it where the count of faults rose
abbrev pub SaysAll : List ℕ → SinkCall → Type 0
SaysAll text err = Writes err text ⊎ (Rose err.before err.now × WritesFront err text)
