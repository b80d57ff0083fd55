-- The formulas of the forms with binary points, on fractions, one line each. `given p` is the argument number p, from 0, and
-- `points` the binary points of the first input, the second input and the output: a, b and c.
use Rattle.std.specs.Prelude.{ℕ, ◌+◌, ◌-◌, ◌^◌, pos, nat_le, if◌then◌else◌, Option, Some, None}
use Rattle.fx_fraction.specs.Fraction.{Fraction, whole, over, plus, minus, times, divided, absolute}
use Rattle.fx_routines.specs.declared.operation.ScaledOp.{ScaledOp}
use Rattle.fx_routines.specs.declared.operation.ScaledOp.TheVariants.{Convert, Add, Sub, AbsDiff, Mul, Div}
use Rattle.mfx_scaled.specs.declared.binary_points.Points.{Points}

-- the factor from the binary point a to the binary point c, two to the power of c - a
unfoldable pub point_factor : ℕ → ℕ → Fraction
point_factor a c = if nat_le a c then whole (pos (2 ^ (c - a))) else over (pos 1) (2 ^ (a - c))

-- the first input at the output's binary point
abbrev pub first_input : Points → (ℕ → Fraction) → Fraction
first_input points given = times (given 0) (point_factor points.a points.c)

-- the second input at the output's binary point
abbrev pub second_input : Points → (ℕ → Fraction) → Fraction
second_input points given = times (given 1) (point_factor points.b points.c)

-- the dividend of a quotient: the first input times two to the power of c + b - a
abbrev pub dividend : Points → (ℕ → Fraction) → Fraction
dividend points given = times (given 0) (point_factor points.a (points.c + points.b))

-- the formula of each form; a quotient by 0 is 0 here
abbrev pub scaled_formula : ScaledOp → Points → (ℕ → Fraction) → Fraction
scaled_formula Convert points given = first_input points given
scaled_formula Add points given = plus (first_input points given) (second_input points given)
scaled_formula Sub points given = minus (first_input points given) (second_input points given)
scaled_formula AbsDiff points given = absolute (minus (first_input points given) (second_input points given))
scaled_formula Mul points given = times (times (given 0) (given 1)) (point_factor (points.a + points.b) points.c)
scaled_formula Div points given = divided (dividend points given) (given 1)

-- the dividend and the divisor of a form whose divisor is an argument
abbrev pub quotient_of : ScaledOp → Points → (ℕ → Fraction) → Option (Fraction × Fraction)
quotient_of Div points given = Some (dividend points given, given 1)
quotient_of other points given = None
