-- How the forms with binary points pass errors on. At a point m that no other is above, each is plain arithmetic on arguments
-- that are shifted to the left, and then a shift to the right; only that one rounds.
use Rattle.std.proofs.Common.{◌≡◌, ℕ, ◌-◌, ◌^◌, ℤ, pos, ◌+ℤ◌, ◌-ℤ◌, ◌*ℤ◌, ap, ap₂, ◌∙◌, subst, arith, max}
use Rattle.std.specs.Prelude.{unsigned_abs, int_div}
use Rattle.fx_fraction.specs.Fraction.{Fraction, denom, whole, plus, minus, times, divided, absolute, Same}
use Rattle.fx_fraction.proofs.Denominators.{is_same, is_self}
use Rattle.fx_fraction.proofs.Distances.{error_bound, bound_of_error}
use Rattle.fx_fraction.proofs.Order.{Same_sym}
use Rattle.fx_core.specs.Rounding.{power}
use Rattle.mfx_arith.proofs.WholeNumbers.{plus-whole, minus-whole, absolute-whole}
use Rattle.mfx_scaled.specs.declared.binary_points.Points.{Points}
use Rattle.mfx_scaled.specs.Counts.{raised}
use Rattle.mfx_scaled.specs.Formulas.{point_factor}
use Rattle.mfx_scaled.proofs.Shifts.{convert_shifted, sum_shifted, difference_shifted, distance_shifted}
use Rattle.part_rules.specs.Errors.{shifted_error}
use Rattle.mfx_rules.specs.ScaledRules.{converted_error, highest, sum_error}
use Rattle.part_rules.proofs.Nearness.{Near, near_plus, near_minus, near_absolute}
use Rattle.part_rules.proofs.Quotients.{near_shifted, near_scaled}

-- an error of one name of a fraction is one of the other
pub near_same : (m err : ℤ) (e f : Fraction) → Same f e → Near (whole m) e err → Near (whole m) f err
near_same m err e f same p = record { near = error_bound m err e.numer 65536 (denom e) f (omega arith) (is_same (Same_sym f e same) (is_self e)) (bound_of_error m err e.numer 65536 (denom e) e (omega arith) (is_self e) p.near) }

-- what is near e is, k places to the right and rounded, near a fraction that is e over two to the power of k
pub near_dropped : (k : ℕ) (m err : ℤ) (e f : Fraction) → Same f (divided e (whole (power k))) → Near (whole m) e err → Near (whole (int_div m (power k))) f (shifted_error k err)
near_dropped k m err e f same p = near_same _ _ (divided e (whole (power k))) f same (near_shifted k m err e p)

-- ---- one number

-- the places between a point and the higher of two
pub places_left : (a c : ℕ) → max a c - a ≡ c - a
places_left a c = omega arith

pub places_right : (a c : ℕ) → max a c - c ≡ a - c
places_right a c = omega arith

pub converted_error_is : (a c : ℕ) (err : ℤ) → shifted_error (max a c - c) (raised err a (max a c)) ≡ converted_error a c err
converted_error_is a c err = ap₂ (λ k j. shifted_error k (err *ℤ power j)) (places_right a c) (places_left a c)

pub near_converted : (a c : ℕ) (m err : ℤ) (e : Fraction) → Near (whole m) e err → Near (whole (int_div (raised m a (max a c)) (power (max a c - c)))) (times e (point_factor a c)) (converted_error a c err)
near_converted a c m err e p =
    let h = max a c in
    subst (Near (whole (int_div (raised m a h) (power (h - c)))) (times e (point_factor a c))) (converted_error_is a c err) (near_dropped (h - c) (raised m a h) (raised err a h) (times e (whole (power (h - a)))) (times e (point_factor a c)) (convert_shifted e a c h (omega arith) (omega arith)) (near_scaled (2 ^ (h - a)) m err e p))

-- ---- sums, differences and distances

near_renamed : (f g e : Fraction) (err : ℤ) → f ≡ g → Near f e err → Near g e err
near_renamed f g e err same p = subst (λ (s : Fraction). Near s e err) same p

-- two numbers at the highest of their points and the output's
pub record AtHighest (points : Points) (m n p q : ℤ) (e f : Fraction) : Type 0 where
  pub first : Near (whole (raised m points.a (highest points))) (times e (whole (power (highest points - points.a)))) (raised p points.a (highest points))
  pub second : Near (whole (raised n points.b (highest points))) (times f (whole (power (highest points - points.b)))) (raised q points.b (highest points))

at_highest : (points : Points) (m n p q : ℤ) (e f : Fraction) → Near (whole m) e p → Near (whole n) f q → AtHighest points m n p q e f
at_highest points m n p q e f h k = record {
  first = near_scaled (2 ^ (highest points - points.a)) m p e h;
  second = near_scaled (2 ^ (highest points - points.b)) n q f k;
}

pub near_sum : (points : Points) (m n p q : ℤ) (e f : Fraction) → Near (whole m) e p → Near (whole n) f q → Near (whole (int_div (raised m points.a (highest points) +ℤ raised n points.b (highest points)) (power (highest points - points.c)))) (plus (times e (point_factor points.a points.c)) (times f (point_factor points.b points.c))) (sum_error points p q)
unfolding sum_error
near_sum points m n p q e f h k =
    let t = at_highest points m n p q e f h k in
    let both = near_plus _ _ _ _ _ _ t.first t.second in
    near_dropped _ _ _ _ _ (sum_shifted e f points.a points.b points.c (highest points) (omega arith) (omega arith) (omega arith)) (near_renamed _ _ _ _ (plus-whole _ _) both)

pub near_difference : (points : Points) (m n p q : ℤ) (e f : Fraction) → Near (whole m) e p → Near (whole n) f q → Near (whole (int_div (raised m points.a (highest points) -ℤ raised n points.b (highest points)) (power (highest points - points.c)))) (minus (times e (point_factor points.a points.c)) (times f (point_factor points.b points.c))) (sum_error points p q)
unfolding sum_error
near_difference points m n p q e f h k =
    let t = at_highest points m n p q e f h k in
    let both = near_minus _ _ _ _ _ _ t.first t.second in
    near_dropped _ _ _ _ _ (difference_shifted e f points.a points.b points.c (highest points) (omega arith) (omega arith) (omega arith)) (near_renamed _ _ _ _ (minus-whole _ _) both)

pub near_distance : (points : Points) (m n p q : ℤ) (e f : Fraction) → Near (whole m) e p → Near (whole n) f q → Near (whole (int_div (pos (unsigned_abs (raised m points.a (highest points) -ℤ raised n points.b (highest points)))) (power (highest points - points.c)))) (absolute (minus (times e (point_factor points.a points.c)) (times f (point_factor points.b points.c)))) (sum_error points p q)
unfolding sum_error
near_distance points m n p q e f h k =
    let t = at_highest points m n p q e f h k in
    let both = near_absolute _ _ _ (near_minus _ _ _ _ _ _ t.first t.second) in
    near_dropped _ _ _ _ _ (distance_shifted e f points.a points.b points.c (highest points) (omega arith) (omega arith) (omega arith)) (near_renamed _ _ _ _ (ap absolute (minus-whole _ _) ∙ absolute-whole _) both)
