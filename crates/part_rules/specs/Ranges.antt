-- The corners of ranges, and the hull of values.
use Rattle.std.specs.Prelude.{ℕ, suc, zero, ◌+◌, ◌&&◌, List, [], ◌∷◌, map, flat_map, get_or, ℤ, pos, fold, int_le, if◌then◌else◌}
use Rattle.std.specs.Int.{int_min, int_max}
use Rattle.part_rules.specs.declared.bounds.Bounds.{Bounds}

-- ---- the corners of one argument

-- the points that lie in a range
abbrev pub points_inside : Bounds → List ℤ → List ℤ
points_inside b [] = []
points_inside b (p ∷ points) = if int_le b.lo p && int_le p b.hi then p ∷ points_inside b points else points_inside b points

-- the corners of the range of an argument along which a function bends at these points: its ends, and the points inside it
abbrev pub corners_at : Bounds → List ℤ → List ℤ
corners_at b points = b.lo ∷ b.hi ∷ points_inside b points

-- ---- the corners of all arguments

-- the bounds of n arguments, from number p on
abbrev pub given_bounds : (ℕ → Bounds) → ℕ → ℕ → List Bounds
given_bounds given p zero = []
given_bounds given p (suc n) = given p ∷ given_bounds given (p + 1) n

-- the corners of each of n arguments along which a function bends nowhere: the ends of each
abbrev pub ends_of : ℕ → (ℕ → Bounds) → List (List ℤ)
ends_of n given = map (λ b. corners_at b []) (given_bounds given 0 n)

-- the corners of all arguments together: all choices of one corner of each
abbrev pub corners_of : List (List ℤ) → List (List ℤ)
corners_of [] = [] ∷ []
corners_of (places ∷ others) = flat_map (λ z. map (λ corner. z ∷ corner) (corners_of others)) places

-- the values of a function of numbers at all corners, from the corners of each argument
abbrev pub corner_values : ((ℕ → ℤ) → ℤ) → List (List ℤ) → List ℤ
corner_values value arguments = map (λ corner. value (λ p. get_or corner p (pos 0))) (corners_of arguments)

-- ---- hulls

-- the least number of a list that isn't empty
abbrev pub least_among : List ℤ → ℤ
least_among [] = pos 0
least_among (v ∷ vs) = fold int_min v vs

-- the greatest number of a list that isn't empty
abbrev pub greatest_among : List ℤ → ℤ
greatest_among [] = pos 0
greatest_among (v ∷ vs) = fold int_max v vs

-- the bounds whose range is the hull of these values, with an error
abbrev pub hull_of : List ℤ → ℤ → Bounds
hull_of values err = record { lo = least_among values; hi = greatest_among values; err = err }

-- 0, where numbers take it or both signs; otherwise nothing
abbrev pub zero_between : List ℤ → List ℤ
zero_between vs = if int_le (least_among vs) (pos 0) && int_le (pos 0) (greatest_among vs) then pos 0 ∷ [] else []
