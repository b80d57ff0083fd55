-- The values of whole numbers and of their quotients in a type, and what is left by a quotient. These are for private
-- functions' clauses alone.
use Rattle.std.specs.Prelude.{ℤ, pos, ◌==◌, if◌then◌else◌, unsigned_abs, int_rem, None, Some}
use Rattle.fx_fraction.specs.Fraction.{divided, whole}
use Rattle.fx_core.specs.Values.{value_in}
use Rattle.fx_core.specs.declared.quotient.Mode.TheVariants.{Zero}
use Rattle.fx_core.specs.declared.word_type.Ty.{Ty}

-- a whole number
unfoldable pub whole_in : Ty → ℤ → ℤ
whole_in t n = value_in Zero t None (whole n)

-- a quotient of two
unfoldable pub quotient_in : Ty → ℤ → ℤ → ℤ
quotient_in t n d = value_in Zero t (Some (whole n, whole d)) (divided (whole n) (whole d))

-- what is left of a whole number by its quotient toward zero, and 0 where the divisor is 0
unfoldable pub whole_remainder : ℤ → ℤ → ℤ
whole_remainder n d = if unsigned_abs d == 0 then pos 0 else int_rem n d
