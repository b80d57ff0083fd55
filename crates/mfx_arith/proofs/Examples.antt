-- Worked values of the operations: each computes.
use Rattle.std.proofs.Common.{◌≡◌, pos, negsuc, refl}
use Rattle.fx_fraction.specs.Fraction.{whole, plus, minus, times, divided, quotient, lesser, greater, absolute, is_zero}
use Rattle.fx_core.specs.declared.word_type.Ty.TheVariants.{U8, S8, U16, S16, U32, S32}
use Rattle.fx_core.specs.Rounding.{rounded}
use Rattle.fx_core.specs.Values.{value_in}
use Rattle.fx_routines.specs.declared.operation.ArithOp.TheVariants.{Add, Sub, AbsDiff, Abs, Mul, Div, Mod, MulDiv, MulShRight, DivShLeft, Limit, Min, Max, RateLimiter}
use Rattle.mfx_arith.specs.Formulas.{remainder}
use Rattle.mfx_arith.specs.Calls.{arith_value}

-- a sum beyond an end of the output gives that end, and fits a wider one
sum_of_bytes_in_a_byte : arith_value Add U8 (pos 200) (pos 100) (pos 0) 0 ≡ pos 255
unfolding arith_value value_in plus whole rounded
sum_of_bytes_in_a_byte = refl

sum_of_bytes_in_16_bits : arith_value Add U16 (pos 200) (pos 100) (pos 0) 0 ≡ pos 300
unfolding arith_value value_in plus whole rounded
sum_of_bytes_in_16_bits = refl

-- a difference below 0
difference_in_a_byte : arith_value Sub U8 (pos 3) (pos 5) (pos 0) 0 ≡ pos 0
unfolding arith_value value_in minus whole rounded
difference_in_a_byte = refl

difference_in_a_signed_byte : arith_value Sub S8 (pos 3) (pos 5) (pos 0) 0 ≡ negsuc 1
unfolding arith_value value_in minus whole rounded
difference_in_a_signed_byte = refl

distance_of_bytes : arith_value AbsDiff U8 (negsuc 127) (pos 127) (pos 0) 0 ≡ pos 255
unfolding arith_value value_in absolute minus whole rounded
distance_of_bytes = refl

absolute_of_the_least : arith_value Abs S8 (negsuc 127) (pos 0) (pos 0) 0 ≡ pos 127
unfolding arith_value value_in absolute whole rounded
absolute_of_the_least = refl

product_of_bytes : arith_value Mul S16 (negsuc 127) (negsuc 127) (pos 0) 0 ≡ pos 16384
unfolding arith_value value_in times whole rounded
product_of_bytes = refl

-- quotients are rounded toward zero, and by 0 give an end
quotient_beyond_the_greatest : arith_value Div S16 (negsuc 32767) (negsuc 0) (pos 0) 0 ≡ pos 32767
unfolding arith_value value_in divided quotient is_zero whole rounded
quotient_beyond_the_greatest = refl

quotient_toward_zero : arith_value Div S16 (negsuc 6) (pos 2) (pos 0) 0 ≡ negsuc 2
unfolding arith_value value_in divided quotient is_zero whole rounded
quotient_toward_zero = refl

seven_over_zero : arith_value Div S16 (pos 7) (pos 0) (pos 0) 0 ≡ pos 32767
unfolding arith_value value_in divided quotient is_zero whole rounded
seven_over_zero = refl

minus_seven_over_zero : arith_value Div S16 (negsuc 6) (pos 0) (pos 0) 0 ≡ negsuc 32767
unfolding arith_value value_in divided quotient is_zero whole rounded
minus_seven_over_zero = refl

zero_over_zero : arith_value Div S16 (pos 0) (pos 0) (pos 0) 0 ≡ pos 32767
unfolding arith_value value_in divided quotient is_zero whole rounded
zero_over_zero = refl

-- a remainder has the sign of the dividend, and by 0 is 0
remainder_of_minus_seven : arith_value Mod S16 (negsuc 6) (pos 2) (pos 0) 0 ≡ negsuc 0
unfolding arith_value value_in remainder minus times divided quotient is_zero whole rounded
remainder_of_minus_seven = refl

remainder_by_zero : arith_value Mod S16 (pos 7) (pos 0) (pos 0) 0 ≡ pos 0
unfolding arith_value value_in remainder minus times divided quotient is_zero whole rounded
remainder_by_zero = refl

product_over_a_third : arith_value MulDiv U32 (negsuc 2147483647) (negsuc 2147483647) (pos 2147483647) 0 ≡ pos 2147483649
unfolding arith_value value_in divided quotient times is_zero whole rounded
product_over_a_third = refl

product_over_a_third_saturates : arith_value MulDiv S32 (negsuc 2147483647) (negsuc 2147483647) (pos 2147483647) 0 ≡ pos 2147483647
unfolding arith_value value_in divided quotient times is_zero whole rounded
product_over_a_third_saturates = refl

-- a shift to the right rounds toward zero too
minus_seven_shifted_right : arith_value MulShRight S8 (negsuc 6) (pos 1) (pos 0) 1 ≡ negsuc 2
unfolding arith_value value_in divided quotient times whole rounded
minus_seven_shifted_right = refl

seven_shifted_left_over_minus_two : arith_value DivShLeft S16 (pos 7) (negsuc 1) (pos 0) 3 ≡ negsuc 27
unfolding arith_value value_in divided quotient times is_zero whole rounded
seven_shifted_left_over_minus_two = refl

held_at_the_upper_limit : arith_value Limit S8 (pos 50) (negsuc 9) (pos 10) 0 ≡ pos 10
unfolding arith_value value_in lesser greater whole rounded
held_at_the_upper_limit = refl

upper_limit_below_the_lower : arith_value Limit S8 (pos 0) (pos 10) (negsuc 9) 0 ≡ negsuc 9
unfolding arith_value value_in lesser greater whole rounded
upper_limit_below_the_lower = refl

lesser_of_two : arith_value Min S8 (negsuc 0) (pos 1) (pos 0) 0 ≡ negsuc 0
unfolding arith_value value_in lesser whole rounded
lesser_of_two = refl

greater_of_two : arith_value Max S8 (negsuc 0) (pos 1) (pos 0) 0 ≡ pos 1
unfolding arith_value value_in greater whole rounded
greater_of_two = refl

-- at most three away from the old value
rise_of_three : arith_value RateLimiter U8 (pos 200) (pos 100) (pos 3) 0 ≡ pos 103
unfolding arith_value value_in lesser greater plus minus whole rounded
rise_of_three = refl

fall_of_three : arith_value RateLimiter U8 (pos 0) (pos 100) (pos 3) 0 ≡ pos 97
unfolding arith_value value_in lesser greater plus minus whole rounded
fall_of_three = refl
