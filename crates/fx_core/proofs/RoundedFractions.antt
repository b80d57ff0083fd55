-- How far rounding moves a fraction.
use Rattle.std.specs.Prelude.{◌≤◌, pos}
use Rattle.std.proofs.Common.{arith}
use Rattle.std.proofs.lemmas.Int.{ints}
use Rattle.fx_fraction.specs.Fraction.{Fraction, denom, whole, over, distance, AtMost, Below}
use Rattle.fx_fraction.proofs.Denominators.{is_whole, is_over, is_self, is_distance, AtMost-in_cross, Below-in}
use Rattle.fx_core.specs.declared.quotient.Mode.{Mode}
use Rattle.fx_core.specs.declared.quotient.Mode.TheVariants.{Near}
use Rattle.fx_core.specs.Values.{rounded_fraction}
use Rattle.fx_core.proofs.RoundingLaws.{rounded-error, rounded-error_near}

pub moves_less_than_one : (mode : Mode) (f : Fraction) → Below (distance (whole (rounded_fraction mode f)) f) (whole (pos 1))
moves_less_than_one mode f =
    let some : 1 ≤ denom f = omega arith in
    let h = rounded-error mode f.numer (pos (denom f)) (omega (arith, ints)) in
    Below-in (is_distance (is_whole (rounded_fraction mode f) (denom f) some) (is_self f)) (is_whole (pos 1) (denom f) some) (omega (arith, ints, h))

pub moves_at_most_a_half : (f : Fraction) → AtMost (distance (whole (rounded_fraction Near f)) f) (over (pos 1) 2)
moves_at_most_a_half f =
    let some : 1 ≤ denom f = omega arith in
    let h = rounded-error_near f.numer (pos (denom f)) (omega (arith, ints)) in
    AtMost-in_cross (is_distance (is_whole (rounded_fraction Near f) (denom f) some) (is_self f)) (is_over (pos 1) 2 (omega arith)) (omega (arith, ints, h))
