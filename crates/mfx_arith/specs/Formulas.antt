-- The formulas of the operations, on fractions, one line each. `given p` is the argument number p, from 0, and `shift` the
-- operation's count of places.
use Rattle.std.specs.Prelude.{ℕ, pos, if◌then◌else◌, Option, Some, None}
use Rattle.fx_fraction.specs.Fraction.{Fraction, whole, plus, minus, times, divided, lesser, greater, absolute, is_zero}
use Rattle.fx_core.specs.Rounding.{power}
use Rattle.fx_core.specs.Values.{rounded_fraction}
use Rattle.fx_core.specs.declared.quotient.Mode.TheVariants.{Zero}
use Rattle.fx_routines.specs.declared.operation.ArithOp.{ArithOp}
use Rattle.fx_routines.specs.declared.operation.ArithOp.TheVariants.{Add, Sub, AbsDiff, Abs, Mul, Div, Mod, MulDiv, MulShRight, DivShLeft, Limit, Min, Max, RateLimiter}

-- what is left of f when g is taken from it as often as their quotient toward zero says, and 0 where g is 0
unfoldable pub remainder : Fraction → Fraction → Fraction
remainder f g = if is_zero g then whole (pos 0) else minus f (times g (whole (rounded_fraction Zero (divided f g))))

-- the formula of each operation; a quotient by 0 is 0 here
abbrev pub arith_formula : ArithOp → ℕ → (ℕ → Fraction) → Fraction
arith_formula Add shift given = plus (given 0) (given 1)
arith_formula Sub shift given = minus (given 0) (given 1)
arith_formula AbsDiff shift given = absolute (minus (given 0) (given 1))
arith_formula Abs shift given = absolute (given 0)
arith_formula Mul shift given = times (given 0) (given 1)
arith_formula Div shift given = divided (given 0) (given 1)
arith_formula Mod shift given = remainder (given 0) (given 1)
arith_formula MulDiv shift given = divided (times (given 0) (given 1)) (given 2)
arith_formula MulShRight shift given = divided (times (given 0) (given 1)) (whole (power shift))
arith_formula DivShLeft shift given = divided (times (given 0) (whole (power shift))) (given 1)
arith_formula Limit shift given = lesser (given 2) (greater (given 1) (given 0))
arith_formula Min shift given = lesser (given 0) (given 1)
arith_formula Max shift given = greater (given 0) (given 1)
arith_formula RateLimiter shift given = lesser (plus (given 1) (given 2)) (greater (minus (given 1) (given 2)) (given 0))

-- the dividend and the divisor of an operation whose divisor is an argument
abbrev pub quotient_of : ArithOp → ℕ → (ℕ → Fraction) → Option (Fraction × Fraction)
quotient_of Div shift given = Some (given 0, given 1)
quotient_of MulDiv shift given = Some (times (given 0) (given 1), given 2)
quotient_of DivShLeft shift given = Some (times (given 0) (whole (power shift)), given 1)
quotient_of other shift given = None
