-- The rule of each operation of Mfx arithmetic alone: its bounds, from those of its arguments. `given p` are the bounds of
-- argument number p, from 0, and `shift` is the operation's count of places. What isn't smooth, a remainder, has no rule.
use Rattle.std.specs.Prelude.{ℕ, Bool, false, List, [], ◌∷◌, ◌++◌, ℤ, pos, ◌+ℤ◌, ◌*ℤ◌}
use Rattle.std.specs.Int.{int_max}
use Rattle.fx_fraction.specs.Fraction.{whole}
use Rattle.fx_core.specs.declared.quotient.Mode.TheVariants.{Zero}
use Rattle.fx_core.specs.Rounding.{power}
use Rattle.fx_core.specs.Values.{rounded_fraction}
use Rattle.fx_routines.specs.declared.operation.ArithOp.{ArithOp}
use Rattle.fx_routines.specs.declared.operation.ArithOp.TheVariants.{Add, Sub, AbsDiff, Abs, Mul, Div, Mod, MulDiv, MulShRight, DivShLeft, Limit, Min, Max, RateLimiter}
use Rattle.mfx_arith.specs.Formulas.{arith_formula}
use Rattle.mfx_arith.specs.Operations.{arith_arity}
use Rattle.part_rules.specs.declared.bounds.Bounds.{Bounds}
use Rattle.part_rules.specs.Ranges.{corner_values, ends_of, hull_of, zero_between}
use Rattle.part_rules.specs.Errors.{magnitude, may_be_zero, product_error, shifted_error, quotient_error}

-- ---- ranges

-- an operation's value at whole numbers, rounded and not saturated
abbrev pub arith_rounded : ArithOp → ℕ → (ℕ → ℤ) → ℤ
arith_rounded op shift m = rounded_fraction Zero (arith_formula op shift (λ p. whole (m p)))

-- an operation's values at all corners of its arguments' ranges
abbrev pub arith_corner_values : ArithOp → ℕ → (ℕ → Bounds) → List ℤ
arith_corner_values op shift given = corner_values (arith_rounded op shift) (ends_of (arith_arity op) given)

-- the least value of an absolute value, where what stands inside it takes 0 or both signs at the corners
abbrev pub turning_values : ArithOp → (ℕ → Bounds) → List ℤ
turning_values AbsDiff given = zero_between (arith_corner_values Sub 0 given)
turning_values Abs given = zero_between ((given 0).lo ∷ (given 0).hi ∷ [])
turning_values other given = []

-- the values of which an operation's range is the hull
unfoldable pub arith_values : ArithOp → ℕ → (ℕ → Bounds) → List ℤ
arith_values op shift given = arith_corner_values op shift given ++ turning_values op given

-- ---- errors, in units of 1/65536 of a raw count

-- the error of each operation
abbrev pub arith_error : ArithOp → ℕ → (ℕ → Bounds) → ℤ
arith_error Add shift given = (given 0).err +ℤ (given 1).err
arith_error Sub shift given = (given 0).err +ℤ (given 1).err
arith_error AbsDiff shift given = (given 0).err +ℤ (given 1).err
arith_error Abs shift given = (given 0).err
arith_error Mul shift given = product_error (given 0) (given 1)
arith_error MulShRight shift given = shifted_error shift (product_error (given 0) (given 1))
arith_error Div shift given = quotient_error 0 (magnitude (given 0)) (given 0).err (given 1)
arith_error DivShLeft shift given = quotient_error 0 (magnitude (given 0) *ℤ power shift) ((given 0).err *ℤ power shift) (given 1)
arith_error MulDiv shift given = quotient_error 0 (magnitude (given 0) *ℤ magnitude (given 1)) (product_error (given 0) (given 1)) (given 2)
arith_error Limit shift given = int_max (int_max (given 0).err (given 1).err) (given 2).err
arith_error Min shift given = int_max (given 0).err (given 1).err
arith_error Max shift given = int_max (given 0).err (given 1).err
arith_error RateLimiter shift given = int_max (given 0).err ((given 1).err +ℤ (given 2).err)
arith_error Mod shift given = pos 0

-- ---- the rule

-- whether the divisor of an operation may be 0
abbrev pub arith_may_divide_by_zero : ArithOp → (ℕ → Bounds) → Bool
arith_may_divide_by_zero Div given = may_be_zero (given 1)
arith_may_divide_by_zero DivShLeft given = may_be_zero (given 1)
arith_may_divide_by_zero MulDiv given = may_be_zero (given 2)
arith_may_divide_by_zero other given = false

-- the bounds of an operation's value, where no divisor may be 0
unfoldable pub arith_bounds : ArithOp → ℕ → (ℕ → Bounds) → Bounds
arith_bounds op shift given = hull_of (arith_values op shift given) (arith_error op shift given)
