-- Worked bounds of the rules of arithmetic: each computes.
use Rattle.std.proofs.Common.{◌≡◌, ℕ, zero, suc, true, false, ℤ, pos, negsuc, refl}
use Rattle.fx_fraction.specs.Fraction.{whole, plus, minus, times, divided, quotient, lesser, greater, absolute}
use Rattle.fx_core.specs.Rounding.{rounded, least_quotient_above}
use Rattle.fx_routines.specs.declared.operation.ArithOp.TheVariants.{Sub, AbsDiff, Abs, Mul, Div, MulDiv, MulShRight, DivShLeft, Limit, RateLimiter}
use Rattle.part_rules.specs.declared.bounds.Bounds.{Bounds}
use Rattle.mfx_rules.specs.ArithRules.{arith_bounds, arith_values, arith_may_divide_by_zero}
use Rattle.part_rules.specs.Errors.{product_error, shifted_error, quotient_error}

abbrev bounds : ℤ → ℤ → ℤ → Bounds
bounds lo hi err = record { lo = lo; hi = hi; err = err }

abbrev given : Bounds → Bounds → Bounds → ℕ → Bounds
given x y z zero = x
given x y z (suc zero) = y
given x y z (suc (suc p)) = z

-- -3..5 less 1..2, and the distance of the two, which takes 0 between
difference : arith_bounds Sub 0 (given (bounds (negsuc 2) (pos 5) (pos 7)) (bounds (pos 1) (pos 2) (pos 9)) (bounds (pos 0) (pos 0) (pos 0))) ≡ bounds (negsuc 4) (pos 4) (pos 16)
unfolding arith_bounds arith_values minus whole rounded
difference = refl

distance_through_zero : arith_bounds AbsDiff 0 (given (bounds (negsuc 2) (pos 5) (pos 7)) (bounds (pos 1) (pos 2) (pos 9)) (bounds (pos 0) (pos 0) (pos 0))) ≡ bounds (pos 0) (pos 5) (pos 16)
unfolding arith_bounds arith_values absolute minus whole rounded
distance_through_zero = refl

absolute_of_negatives : arith_bounds Abs 0 (given (bounds (negsuc 8) (negsuc 3) (pos 7)) (bounds (pos 0) (pos 0) (pos 0)) (bounds (pos 0) (pos 0) (pos 0))) ≡ bounds (pos 4) (pos 9) (pos 7)
unfolding arith_bounds arith_values absolute whole rounded
absolute_of_negatives = refl

-- 3 * 65536 and 5 * 65536 and 1, since the errors are one count and half a count: the errors' product is half a count
product : arith_bounds Mul 0 (given (bounds (negsuc 1) (pos 3) (pos 65536)) (bounds (negsuc 4) (pos 4) (pos 32768)) (bounds (pos 0) (pos 0) (pos 0))) ≡ bounds (negsuc 14) (pos 12) (pos 458752)
unfolding arith_bounds arith_values product_error least_quotient_above times whole rounded
product = refl

-- the same over 8: the error is an eighth and one count
product_shifted : arith_bounds MulShRight 3 (given (bounds (negsuc 1) (pos 3) (pos 65536)) (bounds (negsuc 4) (pos 4) (pos 32768)) (bounds (pos 0) (pos 0) (pos 0))) ≡ bounds (negsuc 0) (pos 1) (pos 122880)
unfolding arith_bounds arith_values shifted_error product_error least_quotient_above divided quotient times whole rounded
product_shifted = refl

product_not_shifted : arith_bounds MulShRight 0 (given (bounds (negsuc 1) (pos 3) (pos 65536)) (bounds (negsuc 4) (pos 4) (pos 32768)) (bounds (pos 0) (pos 0) (pos 0))) ≡ bounds (negsuc 14) (pos 12) (pos 458752)
unfolding arith_bounds arith_values shifted_error product_error least_quotient_above divided quotient times whole rounded
product_not_shifted = refl

-- -100..100 over 2..5: 65536 * (100 * 1 + 2 * 3) over 2 * (131072 - 1) is 26.5 and a little more
quotient_by_five : arith_bounds Div 0 (given (bounds (negsuc 99) (pos 100) (pos 3)) (bounds (pos 2) (pos 5) (pos 1)) (bounds (pos 0) (pos 0) (pos 0))) ≡ bounds (negsuc 49) (pos 50) (pos 65563)
unfolding arith_bounds arith_values quotient_error least_quotient_above divided quotient times whole rounded
quotient_by_five = refl

quotient_of_shifted : arith_bounds DivShLeft 2 (given (bounds (pos 7) (pos 9) (pos 3)) (bounds (negsuc 4) (negsuc 1) (pos 1)) (bounds (pos 0) (pos 0) (pos 0))) ≡ bounds (negsuc 17) (negsuc 4) (pos 65552)
unfolding arith_bounds arith_values quotient_error least_quotient_above divided quotient times whole rounded
quotient_of_shifted = refl

product_over_a_third : arith_bounds MulDiv 0 (given (bounds (pos 0) (pos 6) (pos 0)) (bounds (negsuc 4) (pos 5) (pos 0)) (bounds (pos 3) (pos 4) (pos 0))) ≡ bounds (negsuc 9) (pos 10) (pos 65536)
unfolding arith_bounds arith_values quotient_error product_error least_quotient_above divided quotient times whole rounded
product_over_a_third = refl

held_between : arith_bounds Limit 0 (given (bounds (negsuc 99) (pos 100) (pos 3)) (bounds (negsuc 9) (negsuc 4) (pos 4)) (bounds (pos 5) (pos 6) (pos 2))) ≡ bounds (negsuc 9) (pos 6) (pos 4)
unfolding arith_bounds arith_values lesser greater whole rounded
held_between = refl

-- old 10..20, at most 3 away
at_most_three_away : arith_bounds RateLimiter 0 (given (bounds (pos 0) (pos 100) (pos 3)) (bounds (pos 10) (pos 20) (pos 2)) (bounds (pos 0) (pos 3) (pos 2))) ≡ bounds (pos 7) (pos 23) (pos 4)
unfolding arith_bounds arith_values lesser greater plus minus whole rounded
at_most_three_away = refl

-- a divisor may be 0 where its range holds 0, and where its error reaches to 0
divisor_through_zero : arith_may_divide_by_zero Div (given (bounds (pos 0) (pos 9) (pos 0)) (bounds (negsuc 0) (pos 1) (pos 0)) (bounds (pos 0) (pos 0) (pos 0))) ≡ true
divisor_through_zero = refl

divisor_reaches_zero : arith_may_divide_by_zero MulDiv (given (bounds (pos 0) (pos 9) (pos 0)) (bounds (pos 0) (pos 0) (pos 0)) (bounds (negsuc 5) (negsuc 1) (pos 131072))) ≡ true
divisor_reaches_zero = refl

divisor_stays_away : arith_may_divide_by_zero MulDiv (given (bounds (pos 0) (pos 9) (pos 0)) (bounds (pos 0) (pos 0) (pos 0)) (bounds (negsuc 5) (negsuc 1) (pos 131071))) ≡ false
divisor_stays_away = refl
