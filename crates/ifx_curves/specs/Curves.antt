-- The curve through the values of a table, on fractions, and what the machine gives of it. Value number i stands at the position
-- 65536 * i, so a curve over an axis is read at the position of an input there.
use Rattle.std.specs.Prelude.{ℕ, suc, ◌/◌, ◌%◌, ℤ, pos, nat_lt, if◌then◌else◌, List, [], ◌∷◌, map, unsigned_abs}
use Rattle.fx_fraction.specs.Fraction.{Fraction, whole, plus, minus, times, divided}
use Rattle.fx_core.specs.declared.quotient.Mode.TheVariants.{Floor}
use Rattle.fx_core.specs.Values.{rounded_fraction}
use Rattle.ifx_search.specs.Positions.{is_at_most}
use Rattle.fx_routines.specs.declared.interpolation.CurveOp.{CurveOp}
use Rattle.fx_routines.specs.declared.interpolation.CurveOp.TheVariants.{Ipo, LkUp}
use Rattle.ifx_curves.specs.Tables.{value_at}

-- the height on the way from f to g, t behind f in 1/65536 of the way: f + (g - f) * t / 65536
unfoldable pub on_way : Fraction → Fraction → Fraction → Fraction
on_way f g t = plus f (divided (times (minus g f) t) (whole (pos 65536)))

-- the curve through these heights at the position t: on the way between the heights of the first segment that holds t, the first
-- height before them and the last one behind
unfoldable pub curve_through : List Fraction → Fraction → Fraction
curve_through [] t = whole (pos 0)
curve_through (f ∷ []) t = f
curve_through (f ∷ g ∷ heights) t =
    if is_at_most t (pos 0) then f
    else if is_at_most t (pos 65536) then on_way f g t
    else curve_through (g ∷ heights) (minus t (whole (pos 65536)))

-- the curve through these values
unfoldable pub curve : List ℤ → Fraction → Fraction
curve values t = curve_through (map whole values) t

-- of the two points round a whole position the nearer one: the upper one from half the way on
abbrev pub nearer_point : ℕ → ℕ
nearer_point t = if nat_lt (t % 65536) 32768 then t / 65536 else suc (t / 65536)

-- the value looked up at a whole position
unfoldable pub looked_up : List ℤ → ℕ → ℤ
looked_up values t = value_at values (nearer_point t)

-- what a routine gives at the position t, which isn't negative: the curve there, rounded downward, or the value looked up at t
-- rounded downward
unfoldable pub curve_value : CurveOp → List ℤ → Fraction → ℤ
curve_value Ipo values t = rounded_fraction Floor (curve values t)
curve_value LkUp values t = looked_up values (unsigned_abs (rounded_fraction Floor t))
