-- What a call answers.
use Rattle.std.specs.Prelude.{ℤ}
use Rattle.fx_fraction.specs.Fraction.{whole}
use Rattle.fx_core.specs.Arguments.{two}
use Rattle.fx_core.specs.Values.{value_in}
use Rattle.fx_core.specs.declared.quotient.Mode.TheVariants.{Zero}
use Rattle.fx_core.specs.declared.word_type.Ty.{Ty}
use Rattle.fx_routines.specs.declared.operation.ScaledOp.{ScaledOp}
use Rattle.mfx_scaled.specs.declared.binary_points.Points.{Points}
use Rattle.mfx_scaled.specs.Formulas.{quotient_of, scaled_formula}

-- the value of a form at two whole numbers and its binary points, in an output's type: the formula rounded once toward zero and
-- saturated; for a quotient by 0 the greatest number of the type where the dividend is at least 0, else the least
unfoldable pub scaled_value : ScaledOp → Ty → ℤ → ℤ → Points → ℤ
scaled_value op t x y points = value_in Zero t (quotient_of op points (two (whole x) (whole y))) (scaled_formula op points (two (whole x) (whole y)))
