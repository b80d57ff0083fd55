-- When a call on the outside may answer an error, and what each answer leaves of the last fault.
use Rattle.std.specs.Prelude.{◌≡◌, ℕ, ◌+◌, ◌-◌, ◌^◌, ◌≤◌, min, List, Result, Ok, Err}
use Rattle.fx_io.specs.declared.outside.ShelfFault.{ShelfFault}
use Rattle.fx_io.specs.declared.outside.ShelfFault.TheVariants.{Failed, OutOfMemory}
use Rattle.fx_io.specs.declared.outside.SinkFault.{SinkFault}
use Rattle.fx_io.specs.declared.outside.SinkFault.TheVariants.{Failed as SinkFailed, OutOfMemory as SinkOutOfMemory}

-- a count of faults rose in a call: it is greater at the end, or stands at its last value
abbrev pub Rose : ℕ → ℕ → Type 0
Rose before now = min (before + 1) (2 ^ 64 - 1) ≤ now

-- a shelf's answer: `Failed` only where the faults rose, and the name that failed is then the name in use; no other answer changes that name
abbrev pub HasCause : {T : Type 0} → ℕ → ℕ → List ℕ → List ℕ → List ℕ → Result T ShelfFault → Type 0
HasCause before now named old new (Ok v) = (before ≤ now) × (new ≡ old)
HasCause before now named old new (Err Failed) = (before ≤ now) × Rose before now × (new ≡ named)
HasCause before now named old new (Err OutOfMemory) = (before ≤ now) × (new ≡ old)

-- a sink's answer: `Failed` only where the faults rose
abbrev pub HasSinkCause : {T : Type 0} → ℕ → ℕ → Result T SinkFault → Type 0
HasSinkCause before now (Ok v) = before ≤ now
HasSinkCause before now (Err SinkFailed) = (before ≤ now) × Rose before now
HasSinkCause before now (Err SinkOutOfMemory) = before ≤ now
