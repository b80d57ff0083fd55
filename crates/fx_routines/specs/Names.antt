-- Which types each routine takes, and its names.
use Rattle.std.specs.Prelude.{◌≡◌, ℕ, Bool, true, false, IsTrue, ◌&&◌, ◌||◌, List, [], ◌∷◌, ◌++◌, codes, map, filter, find, flat_map, Option, Some, None, is_some}
use Rattle.std.specs.List.{list_all, list_any, Any}
use Rattle.fx_core.specs.declared.word_type.Ty.{Ty}
use Rattle.fx_core.specs.declared.word_type.Ty.TheVariants.{U8, S8, U16, S16, U32, S32}
use Rattle.fx_routines.specs.declared.operation.Types.{Types}
use Rattle.fx_routines.specs.declared.shape.Part.{Part}
use Rattle.fx_routines.specs.declared.shape.Part.TheVariants as part
use Rattle.fx_routines.specs.declared.table.Routine.{Routine}
use Rattle.fx_routines.specs.Rows.{Row, routine_of, front_of, parts_of, rows, same_routine}
use Rattle.fx_routines.specs.Variants.{types, same_type, belongs}

-- ---- which types fit

-- a type that the part chooses is of its class
abbrev pub has_class : Types → Part → Bool
has_class v (part.First class) = belongs class v.x v.x
has_class v (part.Second class) = belongs class v.x v.y
has_class v (part.Output class) = belongs class v.x v.o
has_class v other = true

-- the part chooses the type of the first input
abbrev pub is_first : Part → Bool
is_first (part.First class) = true
is_first other = false

-- the part chooses the type of the second input
abbrev pub is_second : Part → Bool
is_second (part.Second class) = true
is_second other = false

-- the part chooses the type of the output
abbrev pub is_output : Part → Bool
is_output (part.Output class) = true
is_output other = false

-- a type that no part chooses is another one
abbrev pub repeats : Bool → Ty → Ty → Bool
repeats chosen t other = chosen || same_type t other

-- names of these parts may have these types: each chosen type is of its class, and one that no part chooses repeats
-- that of the first input; where not even that is chosen, all are u8
abbrev pub fits : List Part → Types → Bool
fits parts v =
    list_all (has_class v) parts
    && repeats (list_any is_first parts) v.x U8
    && repeats (list_any is_second parts) v.y v.x
    && repeats (list_any is_output parts) v.o v.x

-- the row is one of the routine, and these types fit it
abbrev pub is_row_of : Routine → Types → Row → Bool
is_row_of routine v row = same_routine (routine_of row) routine && fits (parts_of row) v

-- the first row of the routine that these types fit, if there is one
unfoldable pub row_of : Routine → Types → Option Row
row_of routine v = find (is_row_of routine v) rows

-- there is a routine of these types: such a row
abbrev pub takes : Routine → Types → Bool
takes routine v = is_some (row_of routine v)

-- ---- names

-- the word of a type
abbrev pub type_word : Ty → List ℕ
type_word U8 = codes "u8"
type_word S8 = codes "s8"
type_word U16 = codes "u16"
type_word S16 = codes "s16"
type_word U32 = codes "u32"
type_word S32 = codes "s32"

-- what stands at a part of a name
abbrev pub part_word : Part → Types → List ℕ
part_word (part.First class) v = type_word v.x
part_word (part.Second class) v = type_word v.y
part_word (part.Output class) v = type_word v.o
part_word part.FirstAgain v = type_word v.x
part_word part.SecondAgain v = type_word v.y
part_word part.U8 v = codes "u8"
part_word part.S8 v = codes "s8"
part_word part.Bool v = codes "bool"
part_word part.Underscore v = codes "_"

-- what stands at the parts, one after the other
abbrev pub words : List Part → Types → List ℕ
words [] v = []
words (part ∷ parts) v = part_word part v ++ words parts v

-- the name of a row at types that fit it
abbrev pub row_name : Row → Types → List ℕ
row_name row v = front_of row ++ words (parts_of row) v

-- the name of the row, if there is one
abbrev pub name_by : Option Row → Types → List ℕ
name_by (Some row) v = row_name row v
name_by None v = []

-- the name of a routine at types that it takes
abbrev pub routine_name : Routine → Types → List ℕ
routine_name routine v = name_by (row_of routine v) v

-- the word is the name of a row of the routine at these types
abbrev pub IsNameOf : Routine → Types → List ℕ → Type 0
IsNameOf routine v word =
    Any (λ row. (routine_of row ≡ routine) × IsTrue (fits (parts_of row) v) × (word ≡ row_name row v)) rows

-- ---- all names

-- the six types
abbrev pub all_types : List Ty
all_types = U8 ∷ S8 ∷ U16 ∷ S16 ∷ U32 ∷ S32 ∷ []

-- all choices of three types
abbrev pub all_choices : List Types
all_choices = flat_map (λ x. flat_map (λ y. map (λ o. types x y o) all_types) all_types) all_types

-- the names of a row
abbrev pub row_names : Row → List (List ℕ)
row_names row = map (row_name row) (filter (fits (parts_of row)) all_choices)

-- the names of all rows
unfoldable pub all_names : List (List ℕ)
all_names = flat_map row_names rows
