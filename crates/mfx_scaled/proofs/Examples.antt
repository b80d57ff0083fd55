-- Worked values of the forms: each computes.
use Rattle.std.proofs.Common.{◌≡◌, pos, negsuc, refl}
use Rattle.fx_fraction.specs.Fraction.{whole, over, plus, minus, times, divided, quotient, absolute, is_zero}
use Rattle.fx_core.specs.declared.word_type.Ty.TheVariants.{U8, S8, U16, S16}
use Rattle.fx_core.specs.Rounding.{rounded}
use Rattle.fx_core.specs.Values.{value_in}
use Rattle.fx_routines.specs.declared.operation.ScaledOp.TheVariants.{Convert, Add, Sub, AbsDiff, Mul, Div}
use Rattle.mfx_scaled.specs.Calls.{scaled_value}
use Rattle.mfx_scaled.specs.Formulas.{point_factor}

-- from point 4 to point 0 a conversion drops the fraction, toward zero
minus_one_sixteenth : scaled_value Convert S16 (negsuc 0) (pos 0) (record { a = 4; b = 0; c = 0 }) ≡ pos 0
unfolding scaled_value value_in point_factor times whole over rounded
minus_one_sixteenth = refl

minus_sixteen_sixteenths : scaled_value Convert S16 (negsuc 15) (pos 0) (record { a = 4; b = 0; c = 0 }) ≡ negsuc 0
unfolding scaled_value value_in point_factor times whole over rounded
minus_sixteen_sixteenths = refl

minus_seventeen_sixteenths : scaled_value Convert S16 (negsuc 16) (pos 0) (record { a = 4; b = 0; c = 0 }) ≡ negsuc 0
unfolding scaled_value value_in point_factor times whole over rounded
minus_seventeen_sixteenths = refl

fifteen_sixteenths : scaled_value Convert S16 (pos 15) (pos 0) (record { a = 4; b = 0; c = 0 }) ≡ pos 0
unfolding scaled_value value_in point_factor times whole over rounded
fifteen_sixteenths = refl

-- 1.5 and 0.75 are 2.25: 2 at point 0, and 9 at point 2
sum_at_point_0 : scaled_value Add S16 (pos 3) (pos 3) (record { a = 1; b = 2; c = 0 }) ≡ pos 2
unfolding scaled_value value_in point_factor plus times whole over rounded
sum_at_point_0 = refl

sum_at_point_2 : scaled_value Add S16 (pos 3) (pos 3) (record { a = 1; b = 2; c = 2 }) ≡ pos 9
unfolding scaled_value value_in point_factor plus times whole over rounded
sum_at_point_2 = refl

-- a half and a half are 1: a sum rounds once
halves_are_one : scaled_value Add S16 (pos 1) (pos 1) (record { a = 1; b = 1; c = 0 }) ≡ pos 1
unfolding scaled_value value_in point_factor plus times whole over rounded
halves_are_one = refl

-- 0.75 less 1.5 is -0.75: 0 at point 0, and -3 at point 2; the distance is 3 there
difference_at_point_0 : scaled_value Sub S16 (pos 3) (pos 3) (record { a = 2; b = 1; c = 0 }) ≡ pos 0
unfolding scaled_value value_in point_factor minus times whole over rounded
difference_at_point_0 = refl

difference_at_point_2 : scaled_value Sub S16 (pos 3) (pos 3) (record { a = 2; b = 1; c = 2 }) ≡ negsuc 2
unfolding scaled_value value_in point_factor minus times whole over rounded
difference_at_point_2 = refl

distance_at_point_2 : scaled_value AbsDiff U16 (pos 3) (pos 3) (record { a = 2; b = 1; c = 2 }) ≡ pos 3
unfolding scaled_value value_in point_factor absolute minus times whole over rounded
distance_at_point_2 = refl

-- -1.5 times 2.5 is -3.75: -7 at point 1
product_at_point_1 : scaled_value Mul S16 (negsuc 2) (pos 10) (record { a = 1; b = 2; c = 1 }) ≡ negsuc 6
unfolding scaled_value value_in point_factor times whole over rounded
product_at_point_1 = refl

-- 1.5 over 0.25 is 6: 24 at point 2, where c + b - a is 3
quotient_at_point_2 : scaled_value Div S16 (pos 3) (pos 1) (record { a = 1; b = 2; c = 2 }) ≡ pos 24
unfolding scaled_value value_in point_factor divided quotient is_zero times whole over rounded
quotient_at_point_2 = refl

-- -6.25 over 3 is -2 and a twelfth: -2 at point 0, where c + b - a is -4
quotient_with_a_higher_dividend : scaled_value Div S16 (negsuc 99) (pos 3) (record { a = 4; b = 0; c = 0 }) ≡ negsuc 1
unfolding scaled_value value_in point_factor divided quotient is_zero times whole over rounded
quotient_with_a_higher_dividend = refl

-- by 0 a quotient is an end, whatever the points
one_over_zero : scaled_value Div S16 (pos 1) (pos 0) (record { a = 4; b = 0; c = 0 }) ≡ pos 32767
unfolding scaled_value value_in point_factor divided quotient is_zero times whole over rounded
one_over_zero = refl

minus_one_over_zero : scaled_value Div S16 (negsuc 0) (pos 0) (record { a = 4; b = 0; c = 0 }) ≡ negsuc 32767
unfolding scaled_value value_in point_factor divided quotient is_zero times whole over rounded
minus_one_over_zero = refl

zero_over_zero : scaled_value Div S16 (pos 0) (pos 0) (record { a = 0; b = 3; c = 3 }) ≡ pos 32767
unfolding scaled_value value_in point_factor divided quotient is_zero times whole over rounded
zero_over_zero = refl

-- what is too large or too small for the output is its end
raised_beyond_the_greatest : scaled_value Convert S8 (pos 100) (pos 0) (record { a = 0; b = 0; c = 1 }) ≡ pos 127
unfolding scaled_value value_in point_factor times whole over rounded
raised_beyond_the_greatest = refl

difference_below_the_least : scaled_value Sub U8 (pos 1) (pos 1) (record { a = 1; b = 0; c = 2 }) ≡ pos 0
unfolding scaled_value value_in point_factor minus times whole over rounded
difference_below_the_least = refl
