-- Counts at a binary point: the number n at the point p is n over two to the power of p. `count_in` is for private functions'
-- clauses alone.
use Rattle.std.specs.Prelude.{ℕ, ◌-◌, ℤ, ◌*ℤ◌, None}
use Rattle.fx_fraction.specs.Fraction.{whole, times}
use Rattle.fx_core.specs.Rounding.{power}
use Rattle.fx_core.specs.Values.{value_in}
use Rattle.fx_core.specs.declared.quotient.Mode.TheVariants.{Zero}
use Rattle.fx_core.specs.declared.word_type.Ty.{Ty}
use Rattle.mfx_scaled.specs.Formulas.{point_factor}

-- the count at a point that isn't lower
abbrev pub raised : ℤ → ℕ → ℕ → ℤ
raised n from to = n *ℤ power (to - from)

-- the value in a type of a count from one point at another
unfoldable pub count_in : Ty → ℤ → ℕ → ℕ → ℤ
count_in t n from to = value_in Zero t None (times (whole n) (point_factor from to))
