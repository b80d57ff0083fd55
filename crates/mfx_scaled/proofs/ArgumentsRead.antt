-- A form reads no more than two arguments.
use Rattle.std.proofs.Common.{◌≡◌, ℕ, ℤ, refl}
use Rattle.fx_fraction.specs.Fraction.{whole}
use Rattle.fx_core.specs.Arguments.{two}
use Rattle.fx_routines.specs.declared.operation.ScaledOp.{ScaledOp}
use Rattle.fx_routines.specs.declared.operation.ScaledOp.TheVariants.{Add}
use Rattle.mfx_scaled.specs.declared.binary_points.Points.{Points}
use Rattle.mfx_scaled.specs.Formulas.{quotient_of, scaled_formula}

pub formula_reads : (op : ScaledOp) (points : Points) (m : ℕ → ℤ) → scaled_formula op points (two (whole (m 0)) (whole (m 1))) ≡ scaled_formula op points (λ p. whole (m p))
formula_reads Add points m = refl
formula_reads other points m = refl

pub quotient_reads : (op : ScaledOp) (points : Points) (m : ℕ → ℤ) → quotient_of op points (two (whole (m 0)) (whole (m 1))) ≡ quotient_of op points (λ p. whole (m p))
quotient_reads Add points m = refl
quotient_reads other points m = refl
