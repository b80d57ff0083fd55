-- What is known of a number from the nearest one of 64 signed bits.
use Rattle.std.proofs.Common.{◌≡◌, Bool, true, false, ℕ, ◌<◌, ◌≤◌, min, leb, ap, ◌-◌, ◌^◌, ℤ, pos, negsuc, ◌<ℤ◌, ◌≤ℤ◌, int_le, FitsSigned, Option, Some, None, option_map, Ok, refl, w64, arith}
use Rattle.std.specs.Prelude.{ok_or}
use Rattle.std.proofs.lemmas.Bool.Decides.{nat_tests}
use Rattle.std.proofs.lemmas.Int.{ints}
use Rattle.text_words.specs.Numbers.{held}
use Rattle.text_words.specs.Steps.{◌>>=◌, demand}

-- to cut a number off at m changes no test against a bound up to m
leb-min_right : (l n m : ℕ) → l ≤ m → leb l (min n m) ≡ leb l n
leb-min_right l n m low = grind (arith, nat_tests)

leb-min_left : (h n m : ℕ) → h < m → leb (min n m) h ≡ leb n h
leb-min_left h n m high = grind (arith, nat_tests)

-- a number that fits is held as it is
pub held_same : (z : ℤ) → FitsSigned w64 z → held z ≡ z
unfolding held
held_same (pos n) fits = ap (λ k. pos k) (omega arith)
held_same (negsuc n) fits = ap (λ k. negsuc k) (omega arith)

-- what is held fits
pub held_fits : (z : ℤ) → FitsSigned w64 (held z)
unfolding held
held_fits (pos n) = record { sfits = omega arith }
held_fits (negsuc n) = record { sfits = omega arith }

-- strictly inside of the numbers held, what is held is the number itself
pub held_inside : (z : ℤ) → negsuc (2 ^ 63 - 1) <ℤ held z → held z <ℤ pos (2 ^ 63 - 1) → held z ≡ z
unfolding held
held_inside (pos n) above below = ap (λ k. pos k) (omega (arith, ints, below))
held_inside (negsuc n) above below = ap (λ k. negsuc k) (omega (arith, ints, above))

-- it is at or above a bound exactly where what is held is, at each bound above the least number held
pub held_least : (low z : ℤ) → negsuc (2 ^ 63 - 1) <ℤ low → low ≤ℤ pos (2 ^ 63 - 1) → int_le low (held z) ≡ int_le low z
unfolding held
held_least (pos l) (pos n) above below = leb-min_right l n (2 ^ 63 - 1) (omega (arith, ints, below))
held_least (pos l) (negsuc n) above below = refl
held_least (negsuc l) (pos n) above below = refl
held_least (negsuc l) (negsuc n) above below = leb-min_left l n (2 ^ 63 - 1) (omega (arith, ints, above))

-- it is at or below a bound exactly where what is held is, at each bound below the greatest number held
pub held_most : (high z : ℤ) → negsuc (2 ^ 63 - 1) ≤ℤ high → high <ℤ pos (2 ^ 63 - 1) → int_le (held z) high ≡ int_le z high
unfolding held
held_most (pos h) (pos n) above below = leb-min_left h n (2 ^ 63 - 1) (omega (arith, ints, below))
held_most (pos h) (negsuc n) above below = refl
held_most (negsuc h) (pos n) above below = refl
held_most (negsuc h) (negsuc n) above below = leb-min_right h n (2 ^ 63 - 1) (omega (arith, ints, above))

-- a bound below another is below what that one is at or below
above_trans : (least low z : ℤ) → least <ℤ low → int_le low z ≡ true → least <ℤ z
above_trans least low z above is = grind (arith, ints)

-- the same from above
below_trans : (most high z : ℤ) → high <ℤ most → int_le z high ≡ true → z <ℤ most
below_trans most high z below is = grind (arith, ints)

-- where what is held lies between two such bounds it is the number itself
pub held_between : (low high z : ℤ) → negsuc (2 ^ 63 - 1) <ℤ low → high <ℤ pos (2 ^ 63 - 1) → int_le low (held z) ≡ true → int_le (held z) high ≡ true → held z ≡ z
held_between low high z above below at_least at_most =
    held_inside z (above_trans _ low (held z) above at_least) (below_trans _ high (held z) below at_most)

-- what a test lets through, where it answers the same of both numbers, and they are the same if it holds
tested_of_both : {A E : Type 0} (test : ℤ → Bool) (made : ℤ → A) (failed : E) (z held_z : ℤ) (holds : Bool) → test z ≡ holds → test held_z ≡ holds → (holds ≡ true → held_z ≡ z) → (demand (test held_z) failed >>= λ _. Ok (made held_z)) ≡ (demand (test z) failed >>= λ _. Ok (made z))
tested_of_both test made failed z held_z true p q same = ap (λ v. demand (test v) failed >>= λ _. Ok (made v)) (same refl)
tested_of_both test made failed z held_z false p q same = rw (p, q)

-- a test that answers of what is held as of the number, and holds only where both are the same, lets the same through
pub tested_held : {A E : Type 0} (test : ℤ → Bool) (made : ℤ → A) (missing failed : E) (number : Option ℤ) → ((z : ℤ) → test (held z) ≡ test z) → ((z : ℤ) → test z ≡ true → held z ≡ z) → (ok_or (option_map held number) missing >>= λ z. demand (test z) failed >>= λ _. Ok (made z)) ≡ (ok_or number missing >>= λ z. demand (test z) failed >>= λ _. Ok (made z))
tested_held test made missing failed None answers same = refl
tested_held test made missing failed (Some z) answers same = tested_of_both test made failed z (held z) (test z) refl (answers z) (same z)

-- for a caller that tests the range of what is held: it closes what that tells of the number
pub ruleset held_steps = (held_least, held_most, held_between)
