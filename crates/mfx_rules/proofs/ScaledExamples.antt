-- Worked bounds of the rules of the forms with binary points: each computes.
use Rattle.std.proofs.Common.{◌≡◌, ℕ, true, false, ℤ, pos, negsuc, refl}
use Rattle.fx_fraction.specs.Fraction.{whole, over, plus, minus, times, divided, quotient, absolute}
use Rattle.fx_core.specs.Rounding.{rounded, least_quotient_above}
use Rattle.fx_routines.specs.declared.operation.ScaledOp.TheVariants.{Convert, Add, Sub, AbsDiff, Mul, Div}
use Rattle.mfx_scaled.specs.declared.binary_points.Points.{Points}
use Rattle.mfx_scaled.specs.Formulas.{point_factor}
use Rattle.fx_core.specs.Arguments.{two}
use Rattle.part_rules.specs.declared.bounds.Bounds.{Bounds}
use Rattle.part_rules.specs.Errors.{product_error, shifted_error, quotient_error}
use Rattle.mfx_rules.specs.ScaledRules.{scaled_bounds, scaled_may_divide_by_zero, scaled_values, sum_error}

abbrev bounds : ℤ → ℤ → ℤ → Bounds
bounds lo hi err = record { lo = lo; hi = hi; err = err }

abbrev at : ℕ → ℕ → ℕ → Points
at a b c = record { a = a; b = b; c = c }

-- three places up: exact
raised_by_three : scaled_bounds Convert (at 1 0 4) (two (bounds (negsuc 2) (pos 5) (pos 7)) (bounds (pos 0) (pos 0) (pos 0))) ≡ bounds (negsuc 23) (pos 40) (pos 56)
unfolding scaled_bounds scaled_values shifted_error point_factor times whole rounded
raised_by_three = refl

-- two places down: the error is 7 / 4, rounded up, and one count
lowered_by_two : scaled_bounds Convert (at 3 0 1) (two (bounds (negsuc 2) (pos 5) (pos 7)) (bounds (pos 0) (pos 0) (pos 0))) ≡ bounds (pos 0) (pos 1) (pos 65538)
unfolding scaled_bounds scaled_values shifted_error least_quotient_above point_factor times whole over rounded
lowered_by_two = refl

-- (2 x + y) / 4: two of one error and one of the other, over 4, and one count
sum : scaled_bounds Add (at 1 2 0) (two (bounds (pos 1) (pos 4) (pos 65536)) (bounds (negsuc 2) (pos 5) (pos 32768))) ≡ bounds (pos 0) (pos 3) (pos 106496)
unfolding scaled_bounds scaled_values sum_error shifted_error least_quotient_above point_factor plus times whole over rounded
sum = refl

-- 2 x - y at the higher of the points, where nothing is dropped
difference : scaled_bounds Sub (at 0 1 1) (two (bounds (negsuc 2) (pos 5) (pos 7)) (bounds (pos 1) (pos 2) (pos 9))) ≡ bounds (negsuc 7) (pos 9) (pos 23)
unfolding scaled_bounds scaled_values sum_error shifted_error point_factor minus times whole rounded
difference = refl

-- the distance over 2 is 3 and 4 at the corners, and 0 between
distance_through_zero : scaled_bounds AbsDiff (at 0 1 0) (two (bounds (negsuc 2) (pos 5) (pos 7)) (bounds (pos 1) (pos 2) (pos 9))) ≡ bounds (pos 0) (pos 4) (pos 65548)
unfolding scaled_bounds scaled_values sum_error shifted_error least_quotient_above point_factor absolute minus times whole over rounded
distance_through_zero = refl

-- x is 3/2 at least, and y 1/4 at most: the difference is above 0 at all corners, so 0 is not joined
distance_of_one_sign : scaled_bounds AbsDiff (at 1 2 1) (two (bounds (pos 3) (pos 5) (pos 0)) (bounds (negsuc 0) (pos 1) (pos 0))) ≡ bounds (pos 2) (pos 5) (pos 65536)
unfolding scaled_bounds scaled_values sum_error shifted_error least_quotient_above point_factor absolute minus times whole over rounded
distance_of_one_sign = refl

-- the product's error is 458752, over 4 and one count, or times 2
product : scaled_bounds Mul (at 1 1 0) (two (bounds (negsuc 1) (pos 3) (pos 65536)) (bounds (negsuc 4) (pos 4) (pos 32768))) ≡ bounds (negsuc 2) (pos 3) (pos 180224)
unfolding scaled_bounds scaled_values product_error shifted_error least_quotient_above point_factor times whole over rounded
product = refl

product_raised : scaled_bounds Mul (at 1 1 3) (two (bounds (negsuc 1) (pos 3) (pos 65536)) (bounds (negsuc 4) (pos 4) (pos 32768))) ≡ bounds (negsuc 29) (pos 24) (pos 917504)
unfolding scaled_bounds scaled_values product_error shifted_error least_quotient_above point_factor times whole rounded
product_raised = refl

-- 100 over 4 y: 65536 * (100 * 1 + 2 * 3) over 2 * (131072 - 1) * 4 is 6.6 and a little more
quotient_of_lowered : scaled_bounds Div (at 2 0 0) (two (bounds (pos 100) (pos 100) (pos 3)) (bounds (pos 2) (pos 5) (pos 1))) ≡ bounds (pos 5) (pos 12) (pos 65543)
unfolding scaled_bounds scaled_values quotient_error least_quotient_above point_factor divided quotient times whole over rounded
quotient_of_lowered = refl

-- 8 x over y: 65536 * (72 * 1 + 2 * 24) over 2 * (131072 - 1) is 30 and a little more
quotient_of_raised : scaled_bounds Div (at 0 1 2) (two (bounds (pos 7) (pos 9) (pos 3)) (bounds (negsuc 4) (negsuc 1) (pos 1))) ≡ bounds (negsuc 35) (negsuc 10) (pos 65567)
unfolding scaled_bounds scaled_values quotient_error least_quotient_above point_factor divided quotient times whole rounded
quotient_of_raised = refl

-- a divisor may be 0 where its range holds 0, and where its error reaches to 0, whatever the points are
divisor_through_zero : scaled_may_divide_by_zero Div (two (bounds (pos 0) (pos 9) (pos 0)) (bounds (negsuc 0) (pos 1) (pos 0))) ≡ true
divisor_through_zero = refl

divisor_reaches_zero : scaled_may_divide_by_zero Div (two (bounds (pos 0) (pos 9) (pos 0)) (bounds (negsuc 5) (negsuc 1) (pos 131072))) ≡ true
divisor_reaches_zero = refl

divisor_stays_away : scaled_may_divide_by_zero Div (two (bounds (pos 0) (pos 9) (pos 0)) (bounds (negsuc 5) (negsuc 1) (pos 131071))) ≡ false
divisor_stays_away = refl
