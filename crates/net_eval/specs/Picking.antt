-- Which values are read as outputs; for private functions' clauses alone.
use Rattle.std.specs.Prelude.{ℕ, ◌<◌, List, length, get_or}
use Rattle.net_model.specs.declared.wires.WireNo.{WireNo}

-- each wire of the list has a number below n
abbrev pub AreBelow : List WireNo → ℕ → Type 0
AreBelow outs n = (k : ℕ) → k < length outs → (get_or outs k (record { 0 = 0 })).0 < n
