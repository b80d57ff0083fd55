-- Where a number stands on an axis: 0 at the first point, 65536 more at each point behind it, and between two points in proportion.
use Rattle.std.specs.Prelude.{◌+◌, ◌*◌, ℤ, pos, ◌*ℤ◌, int_le, Bool, if◌then◌else◌, List, [], ◌∷◌}
use Rattle.fx_fraction.specs.Fraction.{Fraction, denom, whole, plus, minus, times, divided}
use Rattle.fx_core.specs.declared.quotient.Mode.TheVariants.{Floor}
use Rattle.fx_core.specs.Values.{rounded_fraction}
use Rattle.ifx_search.specs.declared.position.Dp.{Dp}

-- whether f is at most the whole number z
abbrev pub is_at_most : Fraction → ℤ → Bool
is_at_most f z = int_le f.numer (z *ℤ pos (denom f))

-- the way from the point p to x in the segment from p to q: 65536 * (x - p) / (q - p)
unfoldable pub way_in : ℤ → ℤ → Fraction → Fraction
way_in p q x = divided (times (whole (pos 65536)) (minus x (whole p))) (minus (whole q) (whole p))

-- the position of x on rising points: 0 up to the first, then 65536 for each segment that ends below x and the way in the first
-- one that ends at x or above; so 65536*(N-1) from the last of N points on
unfoldable pub position : List ℤ → Fraction → Fraction
position [] x = whole (pos 0)
position (p ∷ []) x = whole (pos 0)
position (p ∷ q ∷ points) x =
    if is_at_most x p then whole (pos 0)
    else if is_at_most x q then way_in p q x
    else plus (whole (pos 65536)) (position (q ∷ points) x)

-- the position of a whole number, rounded downward
abbrev pub position_value : List ℤ → ℤ → ℤ
position_value points x = rounded_fraction Floor (position points (whole x))

-- the word of a position: 65536 for each whole segment, and the ratio
abbrev pub word_of : Dp → ℤ
word_of p = pos (p.index * 65536 + p.ratio)
