-- How steep a curve is.
use Rattle.std.specs.Prelude.{ℕ, zero, suc, ◌-◌, ◌*◌, ℤ, pos, ◌-ℤ◌, max, nat_lt, if◌then◌else◌, List, length, unsigned_abs}
use Rattle.ifx_search.specs.Axes.{point_at}
use Rattle.ifx_curves.specs.declared.slopes.Slope.{Slope}
use Rattle.ifx_curves.specs.Tables.{value_at}

-- how far value i + 1 is from value i
abbrev pub step_at : List ℤ → ℕ → ℕ
step_at values i = unsigned_abs (value_at values (suc i) -ℤ value_at values i)

-- the greatest of n such steps
unfoldable pub greatest_of_steps : List ℤ → ℕ → ℕ
greatest_of_steps values zero = 0
greatest_of_steps values (suc n) = max (greatest_of_steps values n) (step_at values n)

-- the greatest step from a value to the next
abbrev pub step_of : List ℤ → ℕ
step_of values = greatest_of_steps values (length values - 1)

-- how far point i + 1 is from point i
abbrev pub run_at : List ℤ → ℕ → ℕ
run_at points i = unsigned_abs (point_at points (suc i) -ℤ point_at points i)

-- the slope from point i to the next, without its sign
abbrev pub slope_at : List ℤ → List ℤ → ℕ → Slope
slope_at points values i = record { rise = step_at values i; run = run_at points i }

-- the steeper of two slopes, and of equal ones the first
abbrev pub steeper : Slope → Slope → Slope
steeper a b = if nat_lt (a.rise * b.run) (b.rise * a.run) then b else a

-- the steepest of the first n + 1 slopes, and of equal ones the first
unfoldable pub steepest_of : List ℤ → List ℤ → ℕ → Slope
steepest_of points values zero = slope_at points values 0
steepest_of points values (suc n) = steeper (steepest_of points values n) (slope_at points values (suc n))

-- the steepest slope of a curve over an axis
abbrev pub slope_of : List ℤ → List ℤ → Slope
slope_of points values = steepest_of points values (length values - 2)

-- a slope as a pair of raw counts
abbrev pub counts_of : Slope → ℤ × ℤ
counts_of slope = (pos slope.rise, pos slope.run)
