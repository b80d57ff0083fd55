-- The numbers that words stand for.
use Rattle.std.specs.Prelude.{ℕ, ◌-◌, ◌^◌, min, List, ◌==◌, ◌&&◌, nat_le, length, slice_index, drop, map, ℤ, pos, negsuc, neg_ℤ, Option, Some, None, option_map, if◌then◌else◌}
use Rattle.std.specs.Char.{is_ascii_digit}
use Rattle.std.specs.Int.Digits.{number_from_digits}
use Rattle.std.specs.List.{list_all}

-- what a decimal digit stands for
abbrev pub digit_of : ℕ → ℕ
digit_of byte = byte - 48

-- the number that one or more digits write in base ten, however many they are
abbrev pub natural_of : List ℕ → Option ℕ
natural_of bytes =
    if nat_le 1 (length bytes) && list_all is_ascii_digit bytes then Some (number_from_digits 10 (map digit_of bytes)) else None

-- the number that a word stands for: `+`, `-` or no sign, and then digits
unfoldable pub number_of : List ℕ → Option ℤ
number_of word =
    if slice_index word 0 == 43 then option_map (λ n. pos n) (natural_of (drop 1 word))
    else (if slice_index word 0 == 45 then option_map (λ n. neg_ℤ (pos n)) (natural_of (drop 1 word))
    else option_map (λ n. pos n) (natural_of word))

-- the nearest number of 64 signed bits: `negsuc n` is -(n + 1)
unfoldable pub held : ℤ → ℤ
held (pos n) = pos (min n (2 ^ 63 - 1))
held (negsuc n) = negsuc (min n (2 ^ 63 - 1))
