-- What is known of a row's values after some of its fields, in whatever order the inputs stand. These are for private
-- functions' clauses alone.
use Rattle.std.specs.Prelude.{ℕ, List, nat_le, slice_set, ℤ, Result, Ok, Err, if◌then◌else◌}
use Rattle.rec_csv.specs.declared.faults.RowFault.{RowFault}
use Rattle.rec_csv.specs.declared.plain_rows.Verdict.{Verdict}

-- the values with the one of input k, if it has one
abbrev pub written : ℕ → Result ℤ RowFault → List ℤ → List ℤ
written k (Ok value) values = slice_set values k value
written k (Err fault) values = values

-- the values with the one of input k, which doesn't matter where an input before it is faulty
unfoldable pub values_after : Verdict → ℕ → Result ℤ RowFault → List ℤ → List ℤ
values_after verdict k read values = if nat_le verdict.good_before k then values else written k read values

-- the fault of input k, if it has one
abbrev pub judged : Verdict → ℕ → Result ℤ RowFault → Verdict
judged verdict k (Ok value) = verdict
judged verdict k (Err fault) = record { good_before = k; outcome = Err fault }

-- the fault of the least input, where input k is read after others
unfoldable pub verdict_after : Verdict → ℕ → Result ℤ RowFault → Verdict
verdict_after verdict k read = if nat_le verdict.good_before k then verdict else judged verdict k read
