-- How a name is read, from the left.
use Rattle.std.specs.Prelude.{ℕ, List, [], ◌∷◌, take, drop, length, bytes_eq, Option, Some, None, option_and_then, if◌then◌else◌}
use Rattle.fx_core.specs.declared.word_type.Ty.{Ty}
use Rattle.fx_core.specs.declared.word_type.Ty.TheVariants.{U8, S8, U16, S16, U32, S32}
use Rattle.fx_routines.specs.declared.operation.Types.{Types}
use Rattle.fx_routines.specs.declared.shape.Class.{Class}
use Rattle.fx_routines.specs.declared.shape.Part.{Part}
use Rattle.fx_routines.specs.declared.shape.Part.TheVariants as part
use Rattle.fx_routines.specs.declared.table.Routine.{Routine}
use Rattle.fx_routines.specs.Rows.{Row, routine_of, front_of, parts_of, rows}
use Rattle.fx_routines.specs.Variants.{types, belongs}
use Rattle.fx_routines.specs.Names.{type_word, part_word}

infixl 10 ◌>>=◌
-- what comes next, if there is a value
abbrev pub ◌>>=◌ : {A B : Type 0} → Option A → (A → Option B) → Option B
value >>= next = option_and_then next value

-- what stands behind a start, where the text begins with it
unfoldable pub after : List ℕ → List ℕ → Option (List ℕ)
after start text = if bytes_eq (take (length start) text) start then Some (drop (length start) text) else None

-- the type, and what stands behind its word
abbrev pub with_type : Ty → Option (List ℕ) → Option (Ty × List ℕ) → Option (Ty × List ℕ)
with_type t (Some rest) other = Some (t, rest)
with_type t None other = other

-- the type whose word the text begins with, and what stands behind that
unfoldable pub first_type : List ℕ → Option (Ty × List ℕ)
first_type text =
    with_type U8 (after (type_word U8) text)
    (with_type S8 (after (type_word S8) text)
    (with_type U16 (after (type_word U16) text)
    (with_type S16 (after (type_word S16) text)
    (with_type U32 (after (type_word U32) text)
    (with_type S32 (after (type_word S32) text) None)))))

-- the types and what is left, where the type t that was just chosen is of its class
abbrev pub if_of_class : Class → Ty → Types → List ℕ → Option (Types × List ℕ)
if_of_class class t v rest = if belongs class v.x t then Some (v, rest) else None

-- a type for the first input, and so far for the second input and the output too
unfoldable pub read_first : Class → List ℕ → Option (Types × List ℕ)
read_first class text = do
  t ← first_type text
  if_of_class class t.0 (types t.0 t.0 t.0) t.1

-- a type for the second input, beside those that are chosen
unfoldable pub read_second : Class → Types → List ℕ → Option (Types × List ℕ)
read_second class v text = do
  t ← first_type text
  if_of_class class t.0 (types v.x t.0 v.o) t.1

-- a type for the output, beside those that are chosen
unfoldable pub read_output : Class → Types → List ℕ → Option (Types × List ℕ)
read_output class v text = do
  t ← first_type text
  if_of_class class t.0 (types v.x v.y t.0) t.1

-- a word that chooses nothing
unfoldable pub read_word : List ℕ → Types → List ℕ → Option (Types × List ℕ)
read_word word v text = do
  rest ← after word text
  Some (v, rest)

-- one part: the types that are chosen then, and what is left
unfoldable pub read_part : Part → Types → List ℕ → Option (Types × List ℕ)
read_part (part.First class) v text = read_first class text
read_part (part.Second class) v text = read_second class v text
read_part (part.Output class) v text = read_output class v text
read_part other v text = read_word (part_word other v) v text

-- the types, where nothing is left
abbrev pub if_at_end : Types → List ℕ → Option Types
if_at_end v [] = Some v
if_at_end v (byte ∷ bytes) = None

-- the parts one after the other, and the whole text with them
unfoldable pub read_parts : List Part → Types → List ℕ → Option Types
read_parts [] v text = if_at_end v text
read_parts (part ∷ parts) v text = do
  next ← read_part part v text
  read_parts parts next.0 next.1

-- the types before one is chosen
abbrev pub no_choice : Types
no_choice = types U8 U8 U8

-- the routine and the types of a row's name
unfoldable pub row_named : Row → List ℕ → Option (Routine × Types)
row_named row word = do
  rest ← after (front_of row) word
  v ← read_parts (parts_of row) no_choice rest
  Some (routine_of row, v)

-- what is found first
abbrev pub or_else : Option (Routine × Types) → Option (Routine × Types) → Option (Routine × Types)
or_else (Some found) other = Some found
or_else None other = other

-- the routine and the types by the first of the rows that reads the word
abbrev pub named_among : List Row → List ℕ → Option (Routine × Types)
named_among [] word = None
named_among (row ∷ others) word = or_else (row_named row word) (named_among others word)

-- the routine and the types that a word names
unfoldable pub named : List ℕ → Option (Routine × Types)
named word = named_among rows word
