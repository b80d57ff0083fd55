-- What a routine answers: its formula's fraction, rounded once.
use Rattle.std.specs.Prelude.{ℤ, pos, int_lt, if◌then◌else◌, Option, Some, None, IfSome, IsFalse}
use Rattle.fx_fraction.specs.Fraction.{Fraction, denom, is_zero}
use Rattle.fx_core.specs.Rounding.{rounded}
use Rattle.fx_core.specs.Types.{greatest_of, least_of, saturated_to}
use Rattle.fx_core.specs.declared.quotient.Mode.{Mode}
use Rattle.fx_core.specs.declared.word_type.Ty.{Ty}

-- a fraction rounded to a whole number
abbrev pub rounded_fraction : Mode → Fraction → ℤ
rounded_fraction mode f = rounded mode f.numer (pos (denom f))

-- a routine's value before saturation: the formula rounded; where the routine divides, with this dividend and this
-- divisor, and the divisor is 0, the greatest value for a dividend of at least 0, else the least
abbrev pub unsaturated : Mode → ℤ → ℤ → Option (Fraction × Fraction) → Fraction → ℤ
unsaturated mode least greatest None formula = rounded_fraction mode formula
unsaturated mode least greatest (Some quotient) formula = if is_zero quotient.1 then (if int_lt quotient.0.numer (pos 0) then least else greatest) else rounded_fraction mode formula

-- a quotient of this dividend and this divisor, where there is one, isn't by 0
abbrev pub Divides : Option (Fraction × Fraction) → Type 0
Divides quotient = IfSome quotient (λ q. IsFalse (is_zero q.1))

-- a routine's value between two ends: rounded once by its library's mode, and saturated
abbrev pub value_between : Mode → ℤ → ℤ → Option (Fraction × Fraction) → Fraction → ℤ
value_between mode least greatest quotient formula = saturated_to least greatest (unsaturated mode least greatest quotient formula)

-- the same between the ends of a word type
unfoldable pub value_in : Mode → Ty → Option (Fraction × Fraction) → Fraction → ℤ
value_in mode t quotient formula = value_between mode (least_of t) (greatest_of t) quotient formula
