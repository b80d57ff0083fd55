-- The type words of a network's text.
use Rattle.std.specs.Prelude.{ℕ, ◌+◌, ◌*◌, Bool, not, ◌&&◌, ◌==◌, nat_eq, nat_le, List, [], ◌∷◌, take, drop, codes, bytes_eq, Option, Some, None, option_and_then, option_map, if◌then◌else◌}
use Rattle.std.specs.Char.{is_ascii_digit}
use Rattle.std.specs.List.{starts_with, prefix_len}
use Rattle.text_words.specs.Names.{is_name}
use Rattle.text_words.specs.Numbers.{digit_of}
use Rattle.fx_core.specs.declared.word_type.Ty.{Ty}
use Rattle.fx_core.specs.declared.word_type.Ty.TheVariants.{U8, S8, U16, S16, U32, S32}
use Rattle.net_model.specs.declared.wires.Kind.{Kind}
use Rattle.net_model.specs.declared.wires.Kind.TheVariants.{Num, Truth}

-- a number type's name
abbrev pub ty_of : List ℕ → Option Ty
ty_of word =
    if bytes_eq word (codes "u8") then Some U8
    else (if bytes_eq word (codes "s8") then Some S8
    else (if bytes_eq word (codes "u16") then Some U16
    else (if bytes_eq word (codes "s16") then Some S16
    else (if bytes_eq word (codes "u32") then Some U32
    else (if bytes_eq word (codes "s32") then Some S32
    else None)))))

-- the binary point of one digit
abbrev pub one_digit : ℕ → Option ℕ
one_digit a = if is_ascii_digit a then Some (digit_of a) else None

-- the binary point of two digits, at most 15
abbrev pub two_digits : ℕ → ℕ → Option ℕ
two_digits a b =
    if is_ascii_digit a && is_ascii_digit b && nat_le (10 * digit_of a + digit_of b) 15
    then Some (10 * digit_of a + digit_of b) else None

-- the binary point that stands behind a type's name: 0 where nothing does, or one or two digits behind a mark
unfoldable pub point_of_word : List ℕ → Option ℕ
point_of_word [] = Some 0
point_of_word (mark ∷ []) = None
point_of_word (mark ∷ a ∷ []) = one_digit a
point_of_word (mark ∷ a ∷ b ∷ []) = two_digits a b
point_of_word (mark ∷ a ∷ b ∷ c ∷ more) = None

-- the mark before a binary point
abbrev pub is_point_mark : ℕ → Bool
is_point_mark byte = byte == 46

-- how long the type's name is, which ends before the first point mark
abbrev pub ty_len : List ℕ → ℕ
ty_len word = prefix_len (λ byte. not (is_point_mark byte)) word

-- a number type, with a binary point or without one
unfoldable pub number_kind_of : List ℕ → Option Kind
number_kind_of word =
    option_and_then (λ ty. option_map (λ point. Num ty point) (point_of_word (drop (ty_len word) word))) (ty_of (take (ty_len word) word))

-- a number type or `bool`
unfoldable pub kind_of : List ℕ → Option Kind
kind_of word = if bytes_eq word (codes "bool") then Some Truth else number_kind_of word

-- what stands behind `dp:`
abbrev pub axis_name : List ℕ → List ℕ
axis_name word = drop 3 word

-- the type of positions on an axis: `dp:` and the axis's name
unfoldable pub is_position : List ℕ → Bool
is_position word = starts_with nat_eq word (codes "dp:") && is_name (axis_name word)
