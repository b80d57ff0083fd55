-- The word types: which numbers each holds, and the nearest of them to a number.
use Rattle.std.specs.Prelude.{ℕ, ℤ, pos, negsuc, ◌≤ℤ◌, Bool, ◌&&◌, int_lt, int_le, if◌then◌else◌}
use Rattle.fx_core.specs.declared.word_type.Ty.{Ty}
use Rattle.fx_core.specs.declared.word_type.Ty.TheVariants.{U8, S8, U16, S16, U32, S32}

-- the least number of a type
abbrev pub least_of : Ty → ℤ
least_of U8 = pos 0
least_of S8 = negsuc 127
least_of U16 = pos 0
least_of S16 = negsuc 32767
least_of U32 = pos 0
least_of S32 = negsuc 2147483647

-- the greatest number of a type
abbrev pub greatest_of : Ty → ℤ
greatest_of U8 = pos 255
greatest_of S8 = pos 127
greatest_of U16 = pos 65535
greatest_of S16 = pos 32767
greatest_of U32 = pos 4294967295
greatest_of S32 = pos 2147483647

-- how many bits a type has
abbrev pub width_of : Ty → ℕ
width_of U8 = 8
width_of S8 = 8
width_of U16 = 16
width_of S16 = 16
width_of U32 = 32
width_of S32 = 32

-- v is a number of the type
abbrev pub Holds : Ty → ℤ → Type 0
Holds t v = (least_of t ≤ℤ v) × (v ≤ℤ greatest_of t)

-- that fact as a test
abbrev pub holds : Ty → ℤ → Bool
holds t v = int_le (least_of t) v && int_le v (greatest_of t)

-- low where v is below it, high where v is above it, and otherwise v
abbrev pub saturated_to : ℤ → ℤ → ℤ → ℤ
saturated_to low high v = if int_lt v low then low else (if int_lt high v then high else v)

-- the number of the type that is nearest to v
abbrev pub saturated : Ty → ℤ → ℤ
saturated t v = saturated_to (least_of t) (greatest_of t) v
