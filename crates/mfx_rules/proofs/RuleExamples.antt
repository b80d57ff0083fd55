-- What rules as records give, worked out: each computes.
use Rattle.std.specs.Prelude.{◌≡◌, ◌+◌, [], ◌∷◌, ℤ, pos, negsuc, None, Some, refl}
use Rattle.fx_fraction.specs.Fraction.{whole, over, plus, times, divided, quotient}
use Rattle.fx_core.specs.Rounding.{rounded, least_quotient_above}
use Rattle.fx_core.specs.Arguments.{two}
use Rattle.fx_routines.specs.declared.operation.ArithOp.TheVariants.{Add, Abs, Div, Mod}
use Rattle.fx_routines.specs.declared.operation.ScaledOp.TheVariants.{Convert}
use Rattle.mfx_scaled.specs.Formulas.{point_factor}
use Rattle.part_rules.specs.declared.bounds.Bounds.{Bounds}
use Rattle.part_rules.specs.Errors.{quotient_error, shifted_error}
use Rattle.part_rules.specs.PartRules.{given_by, read_now, renamed}
use Rattle.mfx_rules.specs.ArithRules.{arith_bounds, arith_values}
use Rattle.mfx_rules.specs.ScaledRules.{scaled_bounds, scaled_values}
use Rattle.mfx_rules.specs.OperationRules.{arith_rule, scaled_rule}

abbrev bounds : ℤ → ℤ → ℤ → Bounds
bounds lo hi err = record { lo = lo; hi = hi; err = err }

-- 0..10 and -1..2, with their errors together
sum : given_by (arith_rule Add 0) (two (bounds (pos 0) (pos 10) (pos 7)) (bounds (negsuc 0) (pos 2) (pos 9))) ≡ Some (bounds (negsuc 0) (pos 12) (pos 16))
unfolding arith_bounds arith_values plus whole rounded
sum = refl

-- 1..5 by 2..3 is rounded, and so errs by one raw count
ratio : given_by (arith_rule Div 0) (two (bounds (pos 1) (pos 5) (pos 0)) (bounds (pos 2) (pos 3) (pos 0))) ≡ Some (bounds (pos 0) (pos 2) (pos 65536))
unfolding arith_bounds arith_values quotient_error divided quotient times whole rounded least_quotient_above
ratio = refl

-- a divisor that may be 0, and a remainder, have no bounds
by_zero : given_by (arith_rule Div 0) (two (bounds (pos 1) (pos 5) (pos 0)) (bounds (pos 0) (pos 3) (pos 0))) ≡ None
by_zero = refl

remainder : given_by (arith_rule Mod 0) (two (bounds (pos 1) (pos 5) (pos 0)) (bounds (pos 2) (pos 3) (pos 0))) ≡ None
remainder = refl

-- 32..160 at point 4, at point 0
converted : given_by (scaled_rule Convert (record { a = 4; b = 0; c = 0 })) (λ p. bounds (pos 32) (pos 160) (pos 0)) ≡ Some (bounds (pos 2) (pos 10) (pos 65536))
unfolding scaled_bounds scaled_values shifted_error point_factor over times whole rounded least_quotient_above
converted = refl

-- the one argument of an absolute value, by another number
other_number : (renamed (λ p. p + 7) (arith_rule Abs 0)).reads ≡ read_now 7 ∷ []
other_number = refl
