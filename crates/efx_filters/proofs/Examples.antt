-- Worked values of the filters: each computes.
use Rattle.std.proofs.Common.{◌≡◌, pos, negsuc, true, false, [], ◌∷◌, refl}
use Rattle.fx_fraction.specs.Fraction.{whole, plus, minus, times, divided, quotient}
use Rattle.fx_core.specs.declared.word_type.Ty.TheVariants.{U8, S16, S32}
use Rattle.fx_core.specs.Rounding.{rounded}
use Rattle.efx_filters.specs.Formulas.{average_formula, gain_formula, lag_formula, value_formula}
use Rattle.efx_filters.specs.States.{Dt1Data, Pt1Data, average_after, average_start, average_value, dt1_after, dt1_start, dt1_value, gain_start, gain_value, next_state, pt1_after, pt1_start, pt1_value, state_value}

-- a gain of a half: 3 gives 1.5 and rounds up to 2, and -3 gives -1.5 and rounds up to -1
half_of_3 : gain_value (gain_start S16 S16 (pos 32768)) (pos 3) ≡ pos 2
unfolding gain_value gain_formula times divided quotient whole rounded
half_of_3 = refl

half_of_minus_3 : gain_value (gain_start S16 S16 (pos 32768)) (negsuc 2) ≡ negsuc 0
unfolding gain_value gain_formula times divided quotient whole rounded
half_of_minus_3 = refl

-- a gain of 2 beyond the greatest value, and of -1 below the least
twice_200 : gain_value (gain_start U8 U8 (pos 131072)) (pos 200) ≡ pos 255
unfolding gain_value gain_formula times divided quotient whole rounded
twice_200 = refl

minus_200 : gain_value (gain_start U8 U8 (negsuc 65535)) (pos 200) ≡ pos 0
unfolding gain_value gain_formula times divided quotient whole rounded
minus_200 = refl

-- a lag with half of its weight on the old state, where the input 1000 is held from the first row on: 0, 500, 750, 875
lag_1 : Pt1Data
lag_1 = pt1_after (pt1_start S16 S16 32768 (pos 65536)) (pos 1000)

lag_2 : Pt1Data
lag_2 = pt1_after lag_1 (pos 1000)

lag_3 : Pt1Data
lag_3 = pt1_after lag_2 (pos 1000)

lag_in_row_1 : pt1_value (pt1_start S16 S16 32768 (pos 65536)) (pos 1000) ≡ pos 0
unfolding next_state state_value lag_formula value_formula plus times divided quotient whole rounded
lag_in_row_1 = refl

lag_in_row_2 : pt1_value lag_1 (pos 1000) ≡ pos 500
unfolding lag_1 next_state state_value lag_formula value_formula plus times divided quotient whole rounded
lag_in_row_2 = refl

lag_in_row_3 : pt1_value lag_2 (pos 1000) ≡ pos 750
unfolding lag_1 lag_2 next_state state_value lag_formula value_formula plus times divided quotient whole rounded
lag_in_row_3 = refl

lag_in_row_4 : pt1_value lag_3 (pos 1000) ≡ pos 875
unfolding lag_1 lag_2 lag_3 next_state state_value lag_formula value_formula plus times divided quotient whole rounded
lag_in_row_4 = refl

-- a step of the input from 0 to 1000 drives a differentiating lag of the second type in its own row, one of the first in the next
second_in_row_1 : dt1_value (dt1_start true S16 S16 32768 (pos 65536)) (pos 1000) ≡ pos 500
unfolding next_state state_value lag_formula value_formula plus minus times divided quotient whole rounded
second_in_row_1 = refl

second_in_row_2 : dt1_value (dt1_after (dt1_start true S16 S16 32768 (pos 65536)) (pos 1000)) (pos 1000) ≡ pos 250
unfolding next_state state_value lag_formula value_formula plus minus times divided quotient whole rounded
second_in_row_2 = refl

first_1 : Dt1Data
first_1 = dt1_after (dt1_start false S16 S16 32768 (pos 65536)) (pos 1000)

first_in_row_1 : dt1_value (dt1_start false S16 S16 32768 (pos 65536)) (pos 1000) ≡ pos 0
unfolding next_state state_value lag_formula value_formula plus minus times divided quotient whole rounded
first_in_row_1 = refl

first_in_row_2 : dt1_value first_1 (pos 1000) ≡ pos 500
unfolding first_1 next_state state_value lag_formula value_formula plus minus times divided quotient whole rounded
first_in_row_2 = refl

first_in_row_3 : dt1_value (dt1_after first_1 (pos 1000)) (pos 1000) ≡ pos 250
unfolding first_1 next_state state_value lag_formula value_formula plus minus times divided quotient whole rounded
first_in_row_3 = refl

-- the greatest state is kept where the new one would be beyond it
greatest_state : next_state 0 (pos 2147483647) (pos 0) (whole (pos 2147483647)) ≡ pos 140737488355327
unfolding next_state lag_formula plus times divided quotient whole rounded
greatest_state = refl

-- the mean of -1 and -2 is -1.5 and rounds up to -1; in the first row the one before counts as 0, and -0.5 rounds up to 0
mean_in_row_1 : average_value (average_start S16 S16 2) (negsuc 0) ≡ pos 0
unfolding average_value average_formula plus divided quotient whole rounded
mean_in_row_1 = refl

mean_in_row_2 : average_value (average_after (average_start S16 S16 2) (negsuc 0)) (negsuc 1) ≡ negsuc 0
unfolding average_value average_formula plus divided quotient whole rounded
mean_in_row_2 = refl

-- over three rows the window has two inputs: in the fourth row the first one has dropped out
mean_of_three : average_value (record { x = S32; o = S32; n = 3; window = pos 20 ∷ pos 10 ∷ [] }) (pos 33) ≡ pos 21
unfolding average_value average_formula plus divided quotient whole rounded
mean_of_three = refl

window_of_three : (average_after (record { x = S32; o = S32; n = 3; window = pos 20 ∷ pos 10 ∷ [] }) (pos 33)).window ≡ pos 33 ∷ pos 20 ∷ []
window_of_three = refl

-- an average over one row has no window, and gives its input
mean_of_one : average_value (average_after (average_start S16 S16 1) (pos 7)) (pos 9) ≡ pos 9
unfolding average_value average_formula plus divided quotient whole rounded
mean_of_one = refl
