-- What the rules of arithmetic promise of one operation.
use Rattle.std.specs.Prelude.{◌≡◌, ℕ, ◌<◌, false, ℤ, pos, ◌≤ℤ◌, IsTrue}
use Rattle.fx_fraction.specs.Fraction.{Fraction, whole}
use Rattle.fx_core.specs.Values.{Divides}
use Rattle.fx_routines.specs.declared.operation.ArithOp.{ArithOp}
use Rattle.fx_routines.specs.declared.operation.ArithOp.TheVariants.{RateLimiter}
use Rattle.mfx_arith.specs.Formulas.{arith_formula, quotient_of}
use Rattle.mfx_arith.specs.Operations.{arith_arity, is_smooth_operation}
use Rattle.part_rules.specs.declared.bounds.Bounds.{Bounds}
use Rattle.part_rules.specs.Within.{IsWithin}
use Rattle.mfx_rules.specs.ArithRules.{arith_rounded, arith_may_divide_by_zero, arith_bounds}

-- the step of a rate limiter isn't below 0: in a network its type is unsigned
abbrev pub HasUnsignedStep : ArithOp → (ℕ → Bounds) → Type 0
HasUnsignedStep RateLimiter given = pos 0 ≤ℤ (given 2).lo
HasUnsignedStep other given = Unit {0}

-- each argument of an operation is within its bounds: whole numbers in the machine, and fractions
abbrev pub AreWithin : ArithOp → (ℕ → Bounds) → (ℕ → ℤ) → (ℕ → Fraction) → Type 0
AreWithin op given m e = (p : ℕ) → p < arith_arity op → IsWithin (given p) (m p) (e p)

-- an operation keeps its rule at whole numbers m and fractions e
pub record KeepsRule (op : ArithOp) (shift : ℕ) (given : ℕ → Bounds) (m : ℕ → ℤ) (e : ℕ → Fraction) : Type 0 where
  -- its divisor isn't 0 at the whole numbers
  pub machine_divides : Divides (quotient_of op shift (λ p. whole (m p)))
  -- nor is it at the fractions
  pub exact_divides : Divides (quotient_of op shift e)
  -- the rounded value at the whole numbers is within the rule's bounds of the value at the fractions
  pub within : IsWithin (arith_bounds op shift given) (arith_rounded op shift m) (arith_formula op shift e)

-- the rules of arithmetic are sound: each operation that has one keeps it where its divisor can't be 0, a step isn't below 0,
-- and the arguments are within their bounds
abbrev pub ArithRulesAreSound : Type 0
ArithRulesAreSound =
    (op : ArithOp) → IsTrue (is_smooth_operation op) →
    (shift : ℕ) (given : ℕ → Bounds) (m : ℕ → ℤ) (e : ℕ → Fraction) →
    arith_may_divide_by_zero op given ≡ false → HasUnsignedStep op given → AreWithin op given m e →
    KeepsRule op shift given m e
