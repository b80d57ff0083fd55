-- The lines of a text, and the words of a line.
use Rattle.std.specs.Prelude.{ℕ, Bool, true, false, List, [], ◌∷◌, not, ◌==◌, ◌||◌, slice_index, get_or, drop, map, filter, take_while, nat_eq, if◌then◌else◌}
use Rattle.std.specs.List.{slice_split, starts_with}
use Rattle.std.specs.Str.Lines.{strip_carriage_return}

-- what stands before, between and after the bytes at which the test is true: n of them make n + 1 pieces
abbrev pub pieces : (ℕ → Bool) → List ℕ → List (List ℕ)
pieces cuts bytes = slice_split cuts bytes

-- there is no byte
abbrev pub is_empty : List ℕ → Bool
is_empty [] = true
is_empty (byte ∷ bytes) = false

-- ---- lines

-- the byte that ends a line
abbrev pub is_line_feed : ℕ → Bool
is_line_feed byte = byte == 10

-- all pieces, but for an empty one at the end
abbrev pub without_empty_last : List (List ℕ) → List (List ℕ)
without_empty_last [] = []
without_empty_last (piece ∷ []) = if is_empty piece then [] else piece ∷ []
without_empty_last (piece ∷ next ∷ more) = piece ∷ without_empty_last (next ∷ more)

-- the lines of what is left of a text: its pieces between line feeds, of which each loses one carriage return at
-- its end. A last piece that is a lone carriage return is a line, with no bytes
unfoldable pub lines_from : List ℕ → List (List ℕ)
lines_from rest = map strip_carriage_return (without_empty_last (pieces is_line_feed rest))

-- the text without the byte-order mark that may stand at its very start
abbrev pub without_mark : List ℕ → List ℕ
without_mark text = if starts_with nat_eq text (239 ∷ 187 ∷ 191 ∷ []) then drop 3 text else text

-- the lines of a whole text
unfoldable pub lines_of : List ℕ → List (List ℕ)
lines_of text = lines_from (without_mark text)

-- ---- words

-- a space or a tab
abbrev pub is_space_or_tab : ℕ → Bool
is_space_or_tab byte = (byte == 32) || (byte == 9)

-- the word begins with `#`
abbrev pub begins_comment : List ℕ → Bool
begins_comment word = slice_index word 0 == 35

-- the words of a line: its longest runs with no space or tab, up to the first that begins a comment
unfoldable pub words_of : List ℕ → List (List ℕ)
words_of line =
    take_while (λ word. not (begins_comment word)) (filter (λ piece. not (is_empty piece)) (pieces is_space_or_tab line))

-- word number k of a line's words, from 0; an empty one behind the last
abbrev pub nth : List (List ℕ) → ℕ → List ℕ
nth words k = get_or words k []
