-- The command that the words ask for, where its two words are there.
use Rattle.std.proofs.Common.{ℕ, Bool, List, Option, Some, None}
use Rattle.std.specs.Prelude.{if◌then◌else◌}
use Rattle.std.specs.Option.{option_and_then}
use Rattle.bench_core.specs.Requests.{Request, command_over}

-- the command over two words, where both may name files
abbrev pub over_files : List ℕ → List ℕ → List ℕ → Bool → Option Request
over_files command net other named =
    option_and_then (λ (files : List ℕ × List ℕ). command_over command files.0 files.1) (if named then Some (net, other) else None)
