-- The laws of runs: there is one, the computed table, and no other.
use Rattle.std.specs.Prelude.{◌≡◌, ℤ, List}
use Rattle.net_model.specs.Wires.{NetData}
use Rattle.net_model.specs.Validity.{IsValid}
use Rattle.net_meaning.specs.Cells.{Cell, Meaning}
use Rattle.net_meaning.specs.Runs.{HasAllInputs, IsRun, table}

-- the table that is computed for a valid network is a run, where each row has one value for each input
abbrev pub TableIsRun : {V : Type 0} → Meaning V → Type 0
TableIsRun M =
    (net : NetData) → IsValid net → (rows : List (List ℤ)) → HasAllInputs net rows →
    IsRun M net rows (table M net rows)

-- two runs of a valid network over the same rows are one
abbrev pub RunsAgree : {V : Type 0} → Meaning V → Type 0
RunsAgree {V} M =
    (net : NetData) → IsValid net → (rows : List (List ℤ)) (t u : List (List (Cell V))) →
    IsRun M net rows t → IsRun M net rows u → t ≡ u
