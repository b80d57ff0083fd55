-- The lines that are said of each status other than 0.
use Rattle.std.specs.Prelude.{ℕ, List, [], ◌∷◌, ◌++◌, codes}
use Rattle.bench_core.specs.Outcomes.{Refusal, line}

-- the words are outside the grammar
abbrev pub usage : Refusal
usage = record { status = 1; text = codes "usage: bench check NET CERT | run NET REC | audit NET CERT REC | propose NET | gen SEED ROWS" ++ 10 ∷ [] }

-- the outside failed on a file
abbrev pub cannot_read : List ℕ → List ℕ
cannot_read file = line (codes "cannot read ") file

-- the outside failed to take what is printed
abbrev pub cannot_write : List ℕ
cannot_write = codes "cannot write" ++ 10 ∷ []

-- memory ran out
abbrev pub out_of_memory : List ℕ
out_of_memory = codes "out of memory" ++ 10 ∷ []

-- a file has more bytes than its limit
abbrev pub too_long : List ℕ → Refusal
too_long file = record { status = 9; text = line (codes "too long ") file }

-- the certificate isn't accepted, and this part fails first
abbrev pub not_accepted : List ℕ → Refusal
not_accepted part = record { status = 6; text = line (codes "not accepted: ") part }
