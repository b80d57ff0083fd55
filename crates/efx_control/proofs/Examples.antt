-- Worked values of the controllers: each computes.
use Rattle.std.proofs.Common.{◌≡◌, pos, negsuc, true, false, refl}
use Rattle.fx_fraction.specs.Fraction.{whole, plus, minus, times, divided, greater, lesser, quotient}
use Rattle.fx_core.specs.declared.word_type.Ty.TheVariants.{S16, S32}
use Rattle.fx_core.specs.Rounding.{rounded}
use Rattle.efx_filters.specs.Formulas.{value_formula}
use Rattle.efx_filters.specs.States.{state_value}
use Rattle.efx_control.specs.Formulas.{limited_formula, pi_formula, ramp_formula}
use Rattle.efx_control.specs.States.{PiData, PiLimData, RampData, kept_state, pi_after, pi_lim_after, pi_lim_start, pi_lim_value, pi_start, pi_value, ramp_after, ramp_start, ramp_value}

-- a controller of type 1 with a gain of 1 and a share of a quarter, where the input 100 is held: 100, 125, 150
first_1 : PiData
first_1 = pi_after (pi_start false S16 S16 (pos 65536) 16384) (pos 100)

first_2 : PiData
first_2 = pi_after first_1 (pos 100)

first_in_row_1 : pi_value (pi_start false S16 S16 (pos 65536) 16384) (pos 100) ≡ pos 100
unfolding kept_state state_value pi_formula value_formula plus minus times divided quotient whole rounded
first_in_row_1 = refl

first_in_row_2 : pi_value first_1 (pos 100) ≡ pos 125
unfolding first_1 kept_state state_value pi_formula value_formula plus minus times divided quotient whole rounded
first_in_row_2 = refl

first_in_row_3 : pi_value first_2 (pos 100) ≡ pos 150
unfolding first_1 first_2 kept_state state_value pi_formula value_formula plus minus times divided quotient whole rounded
first_in_row_3 = refl

-- one of type 2 integrates its own row: 125, 150
second_in_row_1 : pi_value (pi_start true S16 S16 (pos 65536) 16384) (pos 100) ≡ pos 125
unfolding kept_state state_value pi_formula value_formula plus minus times divided quotient whole rounded
second_in_row_1 = refl

second_in_row_2 : pi_value (pi_after (pi_start true S16 S16 (pos 65536) 16384) (pos 100)) (pos 100) ≡ pos 150
unfolding kept_state state_value pi_formula value_formula plus minus times divided quotient whole rounded
second_in_row_2 = refl

-- held between -20 and 120 it gives 100, 120, 120, and comes down at once when its input does: 70
limited_1 : PiLimData
limited_1 = pi_lim_after (pi_lim_start false S16 S16 (pos 65536) 16384 (negsuc 19) (pos 120)) (pos 100)

limited_2 : PiLimData
limited_2 = pi_lim_after limited_1 (pos 100)

limited_3 : PiLimData
limited_3 = pi_lim_after limited_2 (pos 100)

limited_in_row_1 : pi_lim_value (pi_lim_start false S16 S16 (pos 65536) 16384 (negsuc 19) (pos 120)) (pos 100) ≡ pos 100
unfolding kept_state state_value limited_formula pi_formula value_formula greater lesser plus minus times divided quotient whole rounded
limited_in_row_1 = refl

limited_in_row_3 : pi_lim_value limited_2 (pos 100) ≡ pos 120
unfolding limited_1 limited_2 kept_state state_value limited_formula pi_formula value_formula greater lesser plus minus times divided quotient whole rounded
limited_in_row_3 = refl

limited_in_row_4 : pi_lim_value limited_3 (pos 25) ≡ pos 70
unfolding limited_1 limited_2 limited_3 kept_state state_value limited_formula pi_formula value_formula greater lesser plus minus times divided quotient whole rounded
limited_in_row_4 = refl

limited_from_below : pi_lim_value limited_3 (negsuc 999) ≡ negsuc 19
unfolding limited_1 limited_2 limited_3 kept_state state_value limited_formula pi_formula value_formula greater lesser plus minus times divided quotient whole rounded
limited_from_below = refl

-- with the least gain and a share of a half, an input back at 0 moves the state by half a raw count, and a half is rounded
-- upward: by 1 behind the input -1, and by 0 behind 1
half_up : (pi_after (record { second = false; x = S16; o = S16; k = pos 1; r = 32768; y = pos 0; x1 = negsuc 0 }) (pos 0)).y ≡ pos 1
unfolding kept_state pi_formula plus minus times divided quotient whole rounded
half_up = refl

half_down : (pi_after (record { second = false; x = S16; o = S16; k = pos 1; r = 32768; y = pos 0; x1 = pos 1 }) (pos 0)).y ≡ pos 0
unfolding kept_state pi_formula plus minus times divided quotient whole rounded
half_down = refl

-- the greatest state is kept where the new one would be beyond it
greatest_state : (pi_after (pi_start true S32 S32 (pos 2147483647) 65536) (pos 2147483647)).y ≡ pos 140737488355327
unfolding kept_state pi_formula plus minus times divided quotient whole rounded
greatest_state = refl

-- a ramp that rises by 2 and falls by 1, at the inputs 5, 5, 5, 0: 2, 4, 5, 4
ramp_1 : RampData
ramp_1 = ramp_after (ramp_start S16 S16 131072 65536) (pos 5)

ramp_2 : RampData
ramp_2 = ramp_after ramp_1 (pos 5)

ramp_3 : RampData
ramp_3 = ramp_after ramp_2 (pos 5)

ramp_in_row_1 : ramp_value (ramp_start S16 S16 131072 65536) (pos 5) ≡ pos 2
unfolding kept_state state_value ramp_formula value_formula greater lesser plus minus times divided quotient whole rounded
ramp_in_row_1 = refl

ramp_in_row_2 : ramp_value ramp_1 (pos 5) ≡ pos 4
unfolding ramp_1 kept_state state_value ramp_formula value_formula greater lesser plus minus times divided quotient whole rounded
ramp_in_row_2 = refl

ramp_in_row_3 : ramp_value ramp_2 (pos 5) ≡ pos 5
unfolding ramp_1 ramp_2 kept_state state_value ramp_formula value_formula greater lesser plus minus times divided quotient whole rounded
ramp_in_row_3 = refl

ramp_in_row_4 : ramp_value ramp_3 (pos 0) ≡ pos 4
unfolding ramp_1 ramp_2 ramp_3 kept_state state_value ramp_formula value_formula greater lesser plus minus times divided quotient whole rounded
ramp_in_row_4 = refl

-- by a quarter of a count in a row it gives 0, and then 1 for a half
ramp_by_parts : ramp_value (ramp_after (ramp_start S16 S16 16384 16384) (pos 5)) (pos 5) ≡ pos 1
unfolding kept_state state_value ramp_formula value_formula greater lesser plus minus times divided quotient whole rounded
ramp_by_parts = refl
