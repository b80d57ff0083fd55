-- Printed lines: words with one space between two of them, and a line feed at each line's end.
use Rattle.std.specs.Prelude.{ℕ, List, [], ◌∷◌, ◌++◌}

-- words behind a first one, each behind a space
abbrev pub behind_spaces : List (List ℕ) → List ℕ
behind_spaces [] = []
behind_spaces (word ∷ words) = 32 ∷ word ++ behind_spaces words

-- the words of a line, with one space between two of them
abbrev pub spaced : List (List ℕ) → List ℕ
spaced [] = []
spaced (word ∷ words) = word ++ behind_spaces words

-- the lines of these words, each with its line feed
abbrev pub word_lines : List (List (List ℕ)) → List ℕ
word_lines [] = []
word_lines (words ∷ lines) = spaced words ++ (10 ∷ word_lines lines)
