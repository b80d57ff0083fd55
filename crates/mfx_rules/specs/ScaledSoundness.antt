-- What the rules of the forms with binary points promise of one form.
use Rattle.std.specs.Prelude.{◌≡◌, ℕ, ◌<◌, false, ℤ}
use Rattle.fx_fraction.specs.Fraction.{Fraction, whole}
use Rattle.fx_core.specs.Values.{Divides}
use Rattle.fx_routines.specs.declared.operation.ScaledOp.{ScaledOp}
use Rattle.mfx_scaled.specs.declared.binary_points.Points.{Points}
use Rattle.mfx_scaled.specs.Formulas.{scaled_formula, quotient_of}
use Rattle.mfx_scaled.specs.Operations.{scaled_arity}
use Rattle.part_rules.specs.declared.bounds.Bounds.{Bounds}
use Rattle.part_rules.specs.Within.{IsWithin}
use Rattle.mfx_rules.specs.ScaledRules.{scaled_rounded, scaled_may_divide_by_zero, scaled_bounds}

-- each argument of a form is within its bounds: whole numbers in the machine, and fractions
abbrev pub FormIsGiven : ScaledOp → (ℕ → Bounds) → (ℕ → ℤ) → (ℕ → Fraction) → Type 0
FormIsGiven op given m e = (p : ℕ) → p < scaled_arity op → IsWithin (given p) (m p) (e p)

-- a form keeps its rule at whole numbers m and fractions e
pub record FormKeepsRule (op : ScaledOp) (points : Points) (given : ℕ → Bounds) (m : ℕ → ℤ) (e : ℕ → Fraction) : Type 0 where
  -- its divisor isn't 0 at the whole numbers
  pub machine_divides : Divides (quotient_of op points (λ p. whole (m p)))
  -- nor is it at the fractions
  pub exact_divides : Divides (quotient_of op points e)
  -- the rounded value at the whole numbers is within the rule's bounds of the value at the fractions
  pub within : IsWithin (scaled_bounds op points given) (scaled_rounded op points m) (scaled_formula op points e)

-- the rules of the forms are sound: each form keeps its rule where its divisor can't be 0 and its arguments are within their
-- bounds
abbrev pub ScaledRulesAreSound : Type 0
ScaledRulesAreSound =
    (op : ScaledOp) (points : Points) (given : ℕ → Bounds) (m : ℕ → ℤ) (e : ℕ → Fraction) →
    scaled_may_divide_by_zero op given ≡ false → FormIsGiven op given m e → FormKeepsRule op points given m e
