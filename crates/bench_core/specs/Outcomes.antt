-- What a call does where nothing outside fails: its status, what it prints, what it says, and which files it reaches.
use Rattle.std.specs.Prelude.{ℕ, List, [], ◌∷◌, ◌++◌, Result, Ok, Err}

-- why a call ends before its work is done: a status, and the whole line that is said of it
pub record Refusal : Type 0 where
  pub status : ℕ
  pub text : List ℕ

-- the status, all that is printed and all that is said, and the names of the files that the order of refusals reaches
pub record Outcome : Type 0 where
  pub status : ℕ
  pub out : List ℕ
  pub err : List ℕ
  pub reads : List (List ℕ)

-- a line made of two texts
abbrev pub line : List ℕ → List ℕ → List ℕ
line front back = front ++ back ++ 10 ∷ []

-- the work is done
abbrev pub done : Outcome
done = record { status = 0; out = []; err = []; reads = [] }

-- the work ends with a refusal
abbrev pub refused : Refusal → Outcome
refused r = record { status = r.status; out = []; err = r.text; reads = [] }

-- these bytes are printed before what else is printed
abbrev pub printed : List ℕ → Outcome → Outcome
printed bytes o = record { status = o.status; out = bytes ++ o.out; err = o.err; reads = o.reads }

-- this file is reached before the others
abbrev pub reaching : List ℕ → Outcome → Outcome
reaching name o = record { status = o.status; out = o.out; err = o.err; reads = name ∷ o.reads }

-- the step's refusal, or what comes of what it gives
abbrev pub unless_refused : {T : Type 0} → Result T Refusal → (T → Outcome) → Outcome
unless_refused (Ok x) next = next x
unless_refused (Err r) next = refused r

-- a step over a file, and what comes of what it gives
abbrev pub reading : {T : Type 0} → List ℕ → Result T Refusal → (T → Outcome) → Outcome
reading name step next = reaching name (unless_refused step next)
