-- What a command reads before it does its work: files with their limits, and the network of a file.
use Rattle.std.specs.Prelude.{ℕ, List, length, nat_lt, Result, Ok, Err, if◌then◌else◌}
use Rattle.text_words.specs.Steps.{◌>>=◌}
use Rattle.fx_io.specs.Outside.{bytes_of}
use Rattle.net_model.specs.Wires.{NetData}
use Rattle.net_text.specs.Text.{network_of}
use Rattle.bench_core.specs.Outcomes.{Outcome, Refusal, reading}
use Rattle.bench_core.specs.RefusalTexts.{too_long}
use Rattle.bench_core.specs.FaultTexts.{bad_network}

-- the most bytes of a network's text and of a certificate's text
abbrev pub text_limit : ℕ
text_limit = 1048576

-- the bytes of a file, which has at most so many
abbrev pub file_read : List (List ℕ × List ℕ) → List ℕ → ℕ → Result (List ℕ) Refusal
file_read files name limit =
    if nat_lt limit (length (bytes_of files name)) then Err (too_long name) else Ok (bytes_of files name)

-- what a file's text says, or the refusal of its fault
abbrev pub if_faultless : {T F : Type 0} → (F → Refusal) → Result T F → Result T Refusal
if_faultless refusal (Ok x) = Ok x
if_faultless refusal (Err fault) = Err (refusal fault)

-- the network of a file's bytes
unfoldable pub network_in : List ℕ → List ℕ → Result NetData Refusal
network_in name bytes = if_faultless (bad_network name) (network_of bytes)

-- the network of a file
unfoldable pub network_read : List (List ℕ × List ℕ) → List ℕ → Result NetData Refusal
network_read files name = file_read files name text_limit >>= network_in name

-- the network of a file is read, then a second file, which has at most so many bytes, and then this is made of both
unfoldable pub over_two_files : List (List ℕ × List ℕ) → List ℕ → List ℕ → ℕ → (NetData → List ℕ → Outcome) → Outcome
over_two_files files net other limit work =
    reading net (network_read files net) (λ network. reading other (file_read files other limit) (work network))
