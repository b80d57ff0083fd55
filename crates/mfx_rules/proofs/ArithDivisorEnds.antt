-- Where no divisor may be 0, none is at the ends of its range.
use Rattle.std.specs.Prelude.{◌≡◌, false, ◌≤ℤ◌}
use Rattle.fx_routines.specs.declared.operation.ArithOp.{ArithOp}
use Rattle.fx_routines.specs.declared.operation.ArithOp.TheVariants.{Add, Sub, AbsDiff, Abs, Mul, Div, Mod, MulDiv, MulShRight, DivShLeft, Limit, Min, Max, RateLimiter}
use Rattle.fx_core.specs.Arguments.{three}
use Rattle.part_rules.specs.declared.bounds.Bounds.{Bounds}
use Rattle.mfx_rules.specs.ArithRules.{arith_may_divide_by_zero}
use Rattle.mfx_rules.specs.ArithCorners.{HasDivisorsAtEnds}
use Rattle.part_rules.proofs.DivisorEnds.{ends_of}

pub divisors_at_ends : (op : ArithOp) (x y z : Bounds) → y.lo ≤ℤ y.hi → z.lo ≤ℤ z.hi → arith_may_divide_by_zero op (three x y z) ≡ false → HasDivisorsAtEnds op y z
divisors_at_ends Add x y z h k e = tt
divisors_at_ends Sub x y z h k e = tt
divisors_at_ends AbsDiff x y z h k e = tt
divisors_at_ends Abs x y z h k e = tt
divisors_at_ends Mul x y z h k e = tt
divisors_at_ends Div x y z h k e = ends_of y h e
divisors_at_ends Mod x y z h k e = tt
divisors_at_ends MulDiv x y z h k e = ends_of z k e
divisors_at_ends MulShRight x y z h k e = tt
divisors_at_ends DivShLeft x y z h k e = ends_of y h e
divisors_at_ends Limit x y z h k e = tt
divisors_at_ends Min x y z h k e = tt
divisors_at_ends Max x y z h k e = tt
divisors_at_ends RateLimiter x y z h k e = tt
