-- What the functions of the rules of arithmetic compute, from three numbers and from three bounds. No public clause needs
-- this: the clauses of private functions do.
use Rattle.std.specs.Prelude.{ℕ, ◌≤◌, ℤ, unsigned_abs}
use Rattle.std.specs.Int.{int_min, int_max}
use Rattle.fx_core.specs.Arguments.{three}
use Rattle.fx_routines.specs.declared.operation.ArithOp.{ArithOp}
use Rattle.fx_routines.specs.declared.operation.ArithOp.TheVariants.{Div, MulDiv, DivShLeft}
use Rattle.part_rules.specs.declared.bounds.Bounds.{Bounds}
use Rattle.mfx_rules.specs.ArithRules.{arith_rounded}

-- an operation's value at three whole numbers, rounded and not saturated
unfoldable pub corner_value : ArithOp → ℕ → ℤ → ℤ → ℤ → ℤ
corner_value op shift x y z = arith_rounded op shift (three x y z)

-- the divisor of an operation isn't 0
abbrev pub HasDivisor : ArithOp → ℤ → ℤ → Type 0
HasDivisor Div y z = 1 ≤ unsigned_abs y
HasDivisor DivShLeft y z = 1 ≤ unsigned_abs y
HasDivisor MulDiv y z = 1 ≤ unsigned_abs z
HasDivisor other y z = Unit {0}

-- whether the divisor of an operation isn't 0 at the ends of its range
abbrev pub HasDivisorsAtEnds : ArithOp → Bounds → Bounds → Type 0
HasDivisorsAtEnds Div y z = (1 ≤ unsigned_abs y.lo) × (1 ≤ unsigned_abs y.hi)
HasDivisorsAtEnds DivShLeft y z = (1 ≤ unsigned_abs y.lo) × (1 ≤ unsigned_abs y.hi)
HasDivisorsAtEnds MulDiv y z = (1 ≤ unsigned_abs z.lo) × (1 ≤ unsigned_abs z.hi)
HasDivisorsAtEnds other y z = Unit {0}

-- the least of an operation's values over the ends of its third argument's range; an end of what the operation doesn't
-- have changes nothing, here and below
unfoldable pub least_over_third : ArithOp → ℕ → ℤ → ℤ → Bounds → ℤ
least_over_third op shift x y z = int_min (corner_value op shift x y z.lo) (corner_value op shift x y z.hi)

-- the greatest of them
unfoldable pub greatest_over_third : ArithOp → ℕ → ℤ → ℤ → Bounds → ℤ
greatest_over_third op shift x y z = int_max (corner_value op shift x y z.lo) (corner_value op shift x y z.hi)

-- the least over the ends of its second argument's range too
unfoldable pub least_over_second : ArithOp → ℕ → ℤ → Bounds → Bounds → ℤ
least_over_second op shift x y z = int_min (least_over_third op shift x y.lo z) (least_over_third op shift x y.hi z)

-- the greatest over them
unfoldable pub greatest_over_second : ArithOp → ℕ → ℤ → Bounds → Bounds → ℤ
greatest_over_second op shift x y z = int_max (greatest_over_third op shift x y.lo z) (greatest_over_third op shift x y.hi z)

-- the least over the ends of all its arguments' ranges
unfoldable pub least_at_corners : ArithOp → ℕ → Bounds → Bounds → Bounds → ℤ
least_at_corners op shift x y z = int_min (least_over_second op shift x.lo y z) (least_over_second op shift x.hi y z)

-- the greatest over them
unfoldable pub greatest_at_corners : ArithOp → ℕ → Bounds → Bounds → Bounds → ℤ
greatest_at_corners op shift x y z = int_max (greatest_over_second op shift x.lo y z) (greatest_over_second op shift x.hi y z)
