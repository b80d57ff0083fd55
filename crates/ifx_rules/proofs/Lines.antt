-- Broken lines: straight from each knot to the next, and level before the first and behind the last.
use Rattle.std.specs.Prelude.{List, [], ◌∷◌, ℤ, pos, ◌-ℤ◌, if◌then◌else◌}
use Rattle.fx_fraction.specs.Fraction.{Fraction, whole, plus, minus, times, divided}
use Rattle.ifx_search.specs.Positions.{is_at_most}

-- a knot of a line: its place, and the line's height there
pub record Knot : Type 0 where
  pub place : ℤ
  pub height : ℤ

-- the height at x between two knots, in proportion
unfoldable pub between : Knot → Knot → Fraction → Fraction
between p q x =
    plus (whole p.height) (divided (times (whole (q.height -ℤ p.height)) (minus x (whole p.place))) (minus (whole q.place) (whole p.place)))

-- the height at x, in the first segment that ends at x or above
unfoldable pub line : List Knot → Fraction → Fraction
line [] x = whole (pos 0)
line (p ∷ []) x = whole p.height
line (p ∷ q ∷ knots) x =
    if is_at_most x p.place then whole p.height
    else if is_at_most x q.place then between p q x
    else line (q ∷ knots) x
