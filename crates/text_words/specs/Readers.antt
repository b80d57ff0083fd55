-- Texts that are read line by line: a head, and below it lines of which each changes a state or is a fault. Lines
-- without words are skipped, and counted.
use Rattle.std.specs.Prelude.{ℕ, ◌+◌, Bool, ◌&&◌, ◌==◌, List, [], ◌∷◌, length, codes, bytes_eq, Result, Ok, Err, if◌then◌else◌}
use Rattle.text_words.specs.Lines.{lines_of, nth, words_of}
use Rattle.text_words.specs.Steps.{◌>>=◌, demand}

-- ---- the head

-- a head: its keyword and `1`, and nothing else
abbrev pub is_head : List ℕ → List (List ℕ) → Bool
is_head keyword words = bytes_eq (nth words 0) keyword && bytes_eq (nth words 1) (codes "1") && (length words == 2)

-- the line of a head, from 1, and the lines below it
pub record Head : Type 0 where
  pub line : ℕ
  pub below : List (List ℕ)

-- the head of the lines that are left, below `above` lines without words, or the line in its place: the first with
-- words, or line 1 where none has any
unfoldable pub head_below : List ℕ → ℕ → List (List ℕ) → Result Head ℕ
head_below keyword above [] = Err 1
head_below keyword above (line ∷ rest) =
    if length (words_of line) == 0 then head_below keyword (above + 1) rest
    else (if is_head keyword (words_of line) then Ok (record { line = above + 1; below = rest }) else Err (above + 1))

-- ---- the lines below it

-- how a text is read: faults of kind K are told as F, and the lines make a state S
pub record Reader (S K F : Type 0) : Type 0 where
  -- the first word of the head, and the fault of a line in its place
  pub keyword : List ℕ
  pub no_head : K
  -- the state behind the head, and behind one more line of these words
  pub start : S
  pub step : S → List (List ℕ) → Result S K
  -- the test behind all lines, and its fault, which is told at the last one
  pub is_complete : S → Bool
  pub incomplete : K
  -- a fault of a kind at a line, from 1
  pub fault : ℕ → K → F

-- what a line gives, or its fault with its number
abbrev pub at_line : {S K F A : Type 0} → Reader S K F → ℕ → Result A K → Result A F
at_line reader line (Ok value) = Ok value
at_line reader line (Err kind) = Err (reader.fault line kind)

-- the state behind one more line, which may have no words
unfoldable pub behind_line : {S K F : Type 0} → Reader S K F → S → List (List ℕ) → Result S K
behind_line reader state words = if length words == 0 then Ok state else reader.step state words

-- the state behind all lines
unfoldable pub behind_all : {S K F : Type 0} → Reader S K F → S → Result S K
behind_all reader state = do
  _ ← demand (reader.is_complete state) reader.incomplete
  Ok state

-- the lines that are left, below `above` lines that make this state
unfoldable pub read_below : {S K F : Type 0} → Reader S K F → ℕ → S → List (List ℕ) → Result S F
read_below reader above state [] = at_line reader above (behind_all reader state)
read_below reader above state (line ∷ rest) = do
  next ← at_line reader (above + 1) (behind_line reader state (words_of line))
  read_below reader (above + 1) next rest

-- the lines below a head, if there is one
abbrev pub read_from : {S K F : Type 0} → Reader S K F → Result Head ℕ → Result S F
read_from reader (Ok head) = read_below reader head.line reader.start head.below
read_from reader (Err line) = Err (reader.fault line reader.no_head)

-- what a text says, or its first fault
unfoldable pub said_by : {S K F : Type 0} → Reader S K F → List ℕ → Result S F
said_by reader text = read_from reader (head_below reader.keyword 0 (lines_of text))
