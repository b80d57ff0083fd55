-- Which words are names.
use Rattle.std.specs.Prelude.{ℕ, Bool, false, List, [], ◌∷◌, ◌==◌, ◌&&◌, ◌||◌, nat_le, length}
use Rattle.std.specs.Char.{is_ascii_alphabetic, is_ascii_digit}
use Rattle.std.specs.List.{list_all}

-- A to Z, a to z, or an underscore
abbrev pub begins_name : ℕ → Bool
begins_name byte = is_ascii_alphabetic byte || (byte == 95)

-- one of these, or a digit
abbrev pub continues_name : ℕ → Bool
continues_name byte = begins_name byte || is_ascii_digit byte

-- 1 to 32 bytes: a letter or an underscore, and then letters, digits and underscores
unfoldable pub is_name : List ℕ → Bool
is_name [] = false
is_name (byte ∷ bytes) = nat_le (length (byte ∷ bytes)) 32 && begins_name byte && list_all continues_name bytes
