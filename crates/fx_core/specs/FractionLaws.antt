-- What rounding does to fractions.
use Rattle.std.specs.Prelude.{pos}
use Rattle.fx_fraction.specs.Fraction.{Fraction, whole, over, distance, AtMost, Below}
use Rattle.fx_core.specs.declared.quotient.Mode.{Mode}
use Rattle.fx_core.specs.declared.quotient.Mode.TheVariants.{Near}
use Rattle.fx_core.specs.Values.{rounded_fraction}

-- rounding moves a fraction by less than 1, whatever the mode, and to the nearest by at most a half
abbrev pub LawOfRoundings : Type 0
LawOfRoundings = ((mode : Mode) (f : Fraction) → Below (distance (whole (rounded_fraction mode f)) f) (whole (pos 1))) × ((f : Fraction) → AtMost (distance (whole (rounded_fraction Near f)) f) (over (pos 1) 2))
