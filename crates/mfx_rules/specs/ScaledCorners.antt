-- What the functions of the rules of the forms compute, from two numbers and from two bounds. No public clause needs this:
-- the clauses of private functions do.
use Rattle.std.specs.Prelude.{◌≤◌, ℤ, unsigned_abs}
use Rattle.std.specs.Int.{int_min, int_max}
use Rattle.fx_core.specs.Arguments.{two}
use Rattle.fx_routines.specs.declared.operation.ScaledOp.{ScaledOp}
use Rattle.fx_routines.specs.declared.operation.ScaledOp.TheVariants.{Div}
use Rattle.mfx_scaled.specs.declared.binary_points.Points.{Points}
use Rattle.part_rules.specs.declared.bounds.Bounds.{Bounds}
use Rattle.mfx_rules.specs.ScaledRules.{scaled_rounded}

-- no binary point is above 15
pub record AreLow (points : Points) : Type 0 where
  pub first : points.a ≤ 15
  pub second : points.b ≤ 15
  pub output : points.c ≤ 15

-- a form's value at two whole numbers, rounded and not saturated
unfoldable pub form_value : ScaledOp → Points → ℤ → ℤ → ℤ
form_value op points x y = scaled_rounded op points (two x y)

-- the divisor of a form isn't 0
abbrev pub FormHasDivisor : ScaledOp → ℤ → Type 0
FormHasDivisor Div y = 1 ≤ unsigned_abs y
FormHasDivisor other y = Unit {0}

-- the divisor of a form isn't 0 at the ends of its range
abbrev pub FormHasDivisorsAtEnds : ScaledOp → Bounds → Type 0
FormHasDivisorsAtEnds op y = FormHasDivisor op y.lo × FormHasDivisor op y.hi

-- the least of a form's values over the ends of its second argument's range; an end of what the form doesn't have changes
-- nothing, here and below
unfoldable pub form_least_over_second : ScaledOp → Points → ℤ → Bounds → ℤ
form_least_over_second op points x y = int_min (form_value op points x y.lo) (form_value op points x y.hi)

-- the greatest of them
unfoldable pub form_greatest_over_second : ScaledOp → Points → ℤ → Bounds → ℤ
form_greatest_over_second op points x y = int_max (form_value op points x y.lo) (form_value op points x y.hi)

-- the least over the ends of both ranges
unfoldable pub form_least_at_corners : ScaledOp → Points → Bounds → Bounds → ℤ
form_least_at_corners op points x y = int_min (form_least_over_second op points x.lo y) (form_least_over_second op points x.hi y)

-- the greatest over them
unfoldable pub form_greatest_at_corners : ScaledOp → Points → Bounds → Bounds → ℤ
form_greatest_at_corners op points x y = int_max (form_greatest_over_second op points x.lo y) (form_greatest_over_second op points x.hi y)
