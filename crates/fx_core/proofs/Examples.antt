-- Worked cases of rounding and saturation: each computes.
use Rattle.std.proofs.Common.{◌≡◌, pos, negsuc, refl}
use Rattle.fx_core.specs.declared.quotient.Mode.TheVariants.{Zero, Floor, Near}
use Rattle.fx_core.specs.declared.word_type.Ty.TheVariants.{U8}
use Rattle.fx_core.specs.Rounding.{rounded, shifted_rounded, least_quotient_above}
use Rattle.fx_core.specs.Types.{saturated}

-- -7 / 2 is -3.5: -3 toward zero, and -4 downward
minus_seven_halves_toward_zero : rounded Zero (negsuc 6) (pos 2) ≡ negsuc 2
unfolding rounded
minus_seven_halves_toward_zero = refl

minus_seven_halves_downward : rounded Floor (negsuc 6) (pos 2) ≡ negsuc 3
unfolding rounded
minus_seven_halves_downward = refl

-- to the nearest, a half goes upward: 3 / 2 to 2, -3 / 2 to -1, -5 / 2 to -2
three_halves_to_the_nearest : rounded Near (pos 3) (pos 2) ≡ pos 2
unfolding rounded
three_halves_to_the_nearest = refl

minus_three_halves_to_the_nearest : rounded Near (negsuc 2) (pos 2) ≡ negsuc 0
unfolding rounded
minus_three_halves_to_the_nearest = refl

minus_five_halves_to_the_nearest : rounded Near (negsuc 4) (pos 2) ≡ negsuc 1
unfolding rounded
minus_five_halves_to_the_nearest = refl

-- 3 shifted left by 4 is 48, and -3 shifted right by 1 is -1 to the nearest
three_shifted_left : shifted_rounded Near (pos 3) (pos 4) ≡ pos 48
unfolding shifted_rounded
three_shifted_left = refl

minus_three_shifted_right : shifted_rounded Near (negsuc 2) (negsuc 0) ≡ negsuc 0
unfolding shifted_rounded rounded
minus_three_shifted_right = refl

-- the least whole number not below 7 / 3 is 3, and 6 / 3 is one itself
least_above_seven_thirds : least_quotient_above (pos 7) (pos 3) ≡ pos 3
unfolding least_quotient_above
least_above_seven_thirds = refl

least_above_six_thirds : least_quotient_above (pos 6) (pos 3) ≡ pos 2
unfolding least_quotient_above
least_above_six_thirds = refl

-- an unsigned byte ends at 255 and at 0
byte_at_three_hundred : saturated U8 (pos 300) ≡ pos 255
byte_at_three_hundred = refl

byte_at_minus_one : saturated U8 (negsuc 0) ≡ pos 0
byte_at_minus_one = refl
