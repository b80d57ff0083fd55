-- The words that ask for a command; `request_seen` is for the clauses of private functions alone.
use Rattle.std.specs.Prelude.{ℕ, Bool, false, not, ◌&&◌, List, [], ◌∷◌, Option, Some, None, ◌==◌, codes, bytes_eq, if◌then◌else◌, ⊤}
use Rattle.std.specs.Option.{option_and_then}
use Rattle.bench_core.specs.Calls.{SinkCall, Writes}
use Rattle.bench_core.specs.declared.commands.Command.{Command}
use Rattle.bench_core.specs.declared.commands.Command.TheVariants.{Check, Run}

-- a command with its words
pub data Request : Type 0 where
  check : List ℕ → List ℕ → Request
  run : List ℕ → List ℕ → Request

-- a word that may name a file isn't empty and doesn't begin with `-`
abbrev pub is_file_word : List ℕ → Bool
is_file_word [] = false
is_file_word (b ∷ bytes) = not (b == 45)

-- the words that name the two files of a command; none where there aren't exactly two, or one of them may name no file
abbrev pub two_files : List (List ℕ) → Option (List ℕ × List ℕ)
two_files [] = None
two_files (net ∷ []) = None
two_files (net ∷ other ∷ []) = if is_file_word net && is_file_word other then Some (net, other) else None
two_files (net ∷ other ∷ word ∷ words) = None

-- the command over a network and one file more, by its word
abbrev pub command_over : List ℕ → List ℕ → List ℕ → Option Request
command_over command net other =
    if bytes_eq command (codes "check") then Some (check net other)
    else (if bytes_eq command (codes "run") then Some (run net other) else None)

-- the command that the words ask for, `check NET CERT` or `run NET REC`; none where they are outside the grammar
abbrev pub request_of : List (List ℕ) → Option Request
request_of [] = None
request_of (command ∷ words) = option_and_then (λ files. command_over command files.0 files.1) (two_files words)

-- the files of a command, in the order in which they are read
abbrev pub files_of : Request → List (List ℕ)
files_of (check net cert) = net ∷ cert ∷ []
files_of (run net rec) = net ∷ rec ∷ []

-- the files of the command that is asked for, if one is
abbrev pub files_asked : Option Request → List (List ℕ)
files_asked None = []
files_asked (Some request) = files_of request

-- the request that a command is
abbrev pub request_seen : Command → Request
request_seen (Check net cert) = check net.now cert.now
request_seen (Run net rec) = run net.now rec.now

-- the words `check NET CERT`
abbrev pub check_words : List ℕ → List ℕ → List (List ℕ)
check_words net cert = codes "check" ∷ net ∷ cert ∷ []

-- the words `run NET REC`
abbrev pub run_words : List ℕ → List ℕ → List (List ℕ)
run_words net rec = codes "run" ∷ net ∷ rec ∷ []

-- what a command has printed where a file can't be read: each built command prints nothing before all is read
abbrev pub PrintsUnread : Option Request → SinkCall → Type 0
PrintsUnread None out = ⊤
PrintsUnread (Some (check net cert)) out = Writes out []
PrintsUnread (Some (run net rec)) out = Writes out []
