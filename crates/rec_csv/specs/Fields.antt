-- The fields of a recording's line. `IsOfSource`, and from `is_comma` to `goes_on` plain lines and their bytes, are for
-- private functions' clauses alone.
use Rattle.std.specs.Prelude.{ℕ, Bool, false, not, ⊤, List, [], ◌∷◌, Option, Some, None, ◌==◌, ◌&&◌, ◌||◌, nat_le, length, get_or, take, drop, reverse, ◌-◌, if◌then◌else◌}
use Rattle.std.specs.List.{list_all, prefix_len}
use Rattle.text_words.specs.Lines.{is_space_or_tab}
use Rattle.csv.specs.Machine.{Read, next_record}
use Rattle.csv.specs.Reading.{default_config, strip_bom}
use Rattle.csv.specs.declared.error.ErrorKind.{ErrorKind}
use Rattle.csv.specs.declared.error.ErrorKind.TheVariants as kind
use Rattle.csv.specs.declared.parser.State.TheVariants as st

-- the fields of a record that was read, where no further record comes after it
abbrev pub alone : List (List ℕ) → Option Read → Option (List (List ℕ))
alone fields None = Some fields
alone fields (Some next) = None

-- the fields of the only record
abbrev pub only_record : Option Read → Option (List (List ℕ))
only_record None = None
only_record (Some read) = alone read.0 (next_record default_config read.1 [] [] read.2)

-- the fields of a line, which is read by itself as a text of CSV: none where it has more than 65,536 bytes, or where
-- it isn't exactly one record
unfoldable pub fields_of_line : List ℕ → Option (List (List ℕ))
fields_of_line line =
    if nat_le (length line) 65536 then only_record (next_record default_config st.StartRecord [] [] (strip_bom line)) else None

-- a comma
abbrev pub is_comma : ℕ → Bool
is_comma byte = byte == 44

-- a byte that quotes nothing and ends no record: no double quote, carriage return or line feed
abbrev pub is_plain_byte : ℕ → Bool
is_plain_byte byte = not ((byte == 34) || (byte == 13) || (byte == 10))

-- a line that isn't empty, doesn't begin as a byte-order mark does, and isn't too long
unfoldable pub begins_plain : List ℕ → Bool
begins_plain [] = false
begins_plain (byte ∷ bytes) = not (byte == 239) && nat_le (length (byte ∷ bytes)) 65536

-- a line whose fields are simply the pieces between its commas: such a line with plain bytes alone
abbrev pub is_plain : List ℕ → Bool
is_plain line = begins_plain line && list_all is_plain_byte line

-- a plain byte that ends no field
abbrev pub goes_on : ℕ → Bool
goes_on byte = not (is_comma byte) && is_plain_byte byte

-- the field of a column, from 0, with no bytes where there is none
abbrev pub field_in : List (List ℕ) → ℕ → List ℕ
field_in fields column = get_or fields column []

-- a field without the spaces and tabs at its front
abbrev pub trimmed_front : List ℕ → List ℕ
trimmed_front field = drop (prefix_len is_space_or_tab field) field

-- a field without those at its end
abbrev pub trimmed_back : List ℕ → List ℕ
trimmed_back field = take (length field - prefix_len is_space_or_tab (reverse field)) field

-- a field without the spaces and tabs round it
abbrev pub trimmed : List ℕ → List ℕ
trimmed field = trimmed_back (trimmed_front field)

-- a space, a tab or a carriage return
abbrev pub is_blank_byte : ℕ → Bool
is_blank_byte byte = is_space_or_tab byte || (byte == 13)

-- a line with no other byte
abbrev pub is_blank : List ℕ → Bool
is_blank line = list_all is_blank_byte line

-- an error of the source or of memory
abbrev pub IsOfSource : ErrorKind → Type 0
IsOfSource (kind.Io error) = ⊤
IsOfSource kind.OutOfMemory = ⊤
IsOfSource (kind.UnequalLengths pos expected len) = ⊥
IsOfSource (kind.Utf8 pos error) = ⊥
IsOfSource (kind.Serialize text) = ⊥
IsOfSource (kind.Deserialize pos error) = ⊥
