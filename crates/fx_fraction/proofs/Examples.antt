-- Worked examples of the fractions and their operations.
use Rattle.std.specs.Prelude.{◌≡◌, pos, negsuc, true, false}
use Rattle.std.proofs.Common.{refl}
use Rattle.fx_fraction.specs.Fraction.{whole, over, plus, minus, times, quotient, divided, lesser, greater, absolute, distance, is_zero, Same, Below}

-- 1/2 + 1/3 is 5/6
sum_of_half_and_third : Same (plus (over (pos 1) 2) (over (pos 1) 3)) (over (pos 5) 6)
unfolding plus over
sum_of_half_and_third = refl

-- 1/2 - 2/3 is -1/6, and their product 1/3
half_less_two_thirds : Same (minus (over (pos 1) 2) (over (pos 2) 3)) (over (negsuc 0) 6)
unfolding minus over
half_less_two_thirds = refl

half_of_two_thirds : Same (times (over (pos 1) 2) (over (pos 2) 3)) (over (pos 1) 3)
unfolding times over
half_of_two_thirds = refl

-- 1/4 and 1 are 3/4 apart, either way round
from_quarter_to_one : Same (distance (over (pos 1) 4) (whole (pos 1))) (over (pos 3) 4)
unfolding distance absolute minus over whole
from_quarter_to_one = refl

from_one_to_quarter : Same (distance (whole (pos 1)) (over (pos 1) 4)) (over (pos 3) 4)
unfolding distance absolute minus over whole
from_one_to_quarter = refl

-- 3/4 over 1/2 is 3/2; over -1/2 it is -3/2, and the denominator stays positive
by_a_half : Same (divided (over (pos 3) 4) (over (pos 1) 2)) (over (pos 3) 2)
unfolding divided quotient over
by_a_half = refl

by_less_than_nothing : divided (over (pos 3) 4) (over (negsuc 0) 2) ≡ over (negsuc 5) 4
unfolding divided quotient over
by_less_than_nothing = refl

-- over 0 it is 0
by_nothing : divided (over (pos 3) 4) (whole (pos 0)) ≡ whole (pos 0)
unfolding divided quotient over whole
by_nothing = refl

-- -1/2 is below 1/3
below_a_third : Below (over (negsuc 0) 2) (over (pos 1) 3)
unfolding over
below_a_third = record { lt = tt }

lesser_of_two : lesser (over (pos 1) 3) (over (negsuc 0) 2) ≡ over (negsuc 0) 2
unfolding lesser over
lesser_of_two = refl

greater_of_two : greater (over (pos 1) 3) (over (negsuc 0) 2) ≡ over (pos 1) 3
unfolding greater over
greater_of_two = refl

-- 0/7 is 0, and 1/7 is not
no_sevenths : is_zero (over (pos 0) 7) ≡ true
unfolding is_zero over
no_sevenths = refl

one_seventh : is_zero (over (pos 1) 7) ≡ false
unfolding is_zero over
one_seventh = refl
