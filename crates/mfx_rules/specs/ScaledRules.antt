-- The rule of each form with binary points alone: its bounds, from those of its arguments. `given p` are the bounds of
-- argument number p, from 0, and `points` the binary points of the first input, the second input and the output.
use Rattle.std.specs.Prelude.{ℕ, ◌+◌, ◌-◌, max, Bool, false, List, [], ◌++◌, ℤ, ◌+ℤ◌, ◌*ℤ◌}
use Rattle.fx_fraction.specs.Fraction.{whole}
use Rattle.fx_core.specs.declared.quotient.Mode.TheVariants.{Zero}
use Rattle.fx_core.specs.Rounding.{power}
use Rattle.fx_core.specs.Values.{rounded_fraction}
use Rattle.fx_routines.specs.declared.operation.ScaledOp.{ScaledOp}
use Rattle.fx_routines.specs.declared.operation.ScaledOp.TheVariants.{Convert, Add, Sub, AbsDiff, Mul, Div}
use Rattle.mfx_scaled.specs.declared.binary_points.Points.{Points}
use Rattle.mfx_scaled.specs.Counts.{raised}
use Rattle.mfx_scaled.specs.Formulas.{scaled_formula}
use Rattle.mfx_scaled.specs.Operations.{scaled_arity}
use Rattle.part_rules.specs.declared.bounds.Bounds.{Bounds}
use Rattle.part_rules.specs.Ranges.{corner_values, ends_of, hull_of, zero_between}
use Rattle.part_rules.specs.Errors.{magnitude, may_be_zero, product_error, quotient_error, shifted_error}

-- ---- ranges

-- a form's value at whole numbers, rounded and not saturated
abbrev pub scaled_rounded : ScaledOp → Points → (ℕ → ℤ) → ℤ
scaled_rounded op points m = rounded_fraction Zero (scaled_formula op points (λ p. whole (m p)))

-- a form's values at all corners of its arguments' ranges
abbrev pub scaled_corner_values : ScaledOp → Points → (ℕ → Bounds) → List ℤ
scaled_corner_values op points given = corner_values (scaled_rounded op points) (ends_of (scaled_arity op) given)

-- the inputs' points, with the higher of them for the output: there a difference is a whole number
abbrev pub level_points : Points → Points
level_points points = record { a = points.a; b = points.b; c = max points.a points.b }

-- the least value of an absolute difference, where the difference takes 0 or both signs at the corners
abbrev pub scaled_turning_values : ScaledOp → Points → (ℕ → Bounds) → List ℤ
scaled_turning_values AbsDiff points given = zero_between (scaled_corner_values Sub (level_points points) given)
scaled_turning_values other points given = []

-- the values of which a form's range is the hull
unfoldable pub scaled_values : ScaledOp → Points → (ℕ → Bounds) → List ℤ
scaled_values op points given = scaled_corner_values op points given ++ scaled_turning_values op points given

-- ---- errors, in units of 1/65536 of a raw count

-- the error through a change of the binary point from a to c: multiplied by the factor to the left, or divided by it to the
-- right, where it is rounded up and has one rounding more
abbrev pub converted_error : ℕ → ℕ → ℤ → ℤ
converted_error a c err = shifted_error (a - c) (err *ℤ power (c - a))

-- the highest of three points
abbrev pub highest : Points → ℕ
highest points = max (max points.a points.b) points.c

-- the error of a sum: both errors together at the highest point, and from there at the output's
unfoldable pub sum_error : Points → ℤ → ℤ → ℤ
sum_error points first second = shifted_error (highest points - points.c) (raised first points.a (highest points) +ℤ raised second points.b (highest points))

-- the error of each form
abbrev pub scaled_error : ScaledOp → Points → (ℕ → Bounds) → ℤ
scaled_error Convert points given = converted_error points.a points.c (given 0).err
scaled_error Add points given = sum_error points (given 0).err (given 1).err
scaled_error Sub points given = sum_error points (given 0).err (given 1).err
scaled_error AbsDiff points given = sum_error points (given 0).err (given 1).err
scaled_error Mul points given = converted_error (points.a + points.b) points.c (product_error (given 0) (given 1))
scaled_error Div points given = quotient_error (points.a - (points.c + points.b)) (magnitude (given 0) *ℤ power (points.c + points.b - points.a)) ((given 0).err *ℤ power (points.c + points.b - points.a)) (given 1)

-- ---- the rule

-- whether the divisor of a form may be 0
abbrev pub scaled_may_divide_by_zero : ScaledOp → (ℕ → Bounds) → Bool
scaled_may_divide_by_zero Div given = may_be_zero (given 1)
scaled_may_divide_by_zero other given = false

-- the bounds of a form's value, where no divisor may be 0
unfoldable pub scaled_bounds : ScaledOp → Points → (ℕ → Bounds) → Bounds
scaled_bounds op points given = hull_of (scaled_values op points given) (scaled_error op points given)
