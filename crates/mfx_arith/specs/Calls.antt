-- What a call answers.
use Rattle.std.specs.Prelude.{ℕ, ℤ}
use Rattle.fx_fraction.specs.Fraction.{whole}
use Rattle.fx_core.specs.Arguments.{three}
use Rattle.fx_core.specs.Values.{value_in}
use Rattle.fx_core.specs.declared.quotient.Mode.TheVariants.{Zero}
use Rattle.fx_core.specs.declared.word_type.Ty.{Ty}
use Rattle.fx_routines.specs.declared.operation.ArithOp.{ArithOp}
use Rattle.mfx_arith.specs.Formulas.{arith_formula, quotient_of}

-- the value of an operation at three whole numbers and a count of places, in an output's type: rounded once toward zero and saturated
unfoldable pub arith_value : ArithOp → Ty → ℤ → ℤ → ℤ → ℕ → ℤ
arith_value op t x y z shift = value_in Zero t (quotient_of op shift (three (whole x) (whole y) (whole z))) (arith_formula op shift (three (whole x) (whole y) (whole z)))
