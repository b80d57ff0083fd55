-- The laws of distances of fractions: over a common denominator each is a law of absolute values.
use Rattle.std.specs.Prelude.{◌≡◌, false, ℕ, ◌≤◌, ℤ, pos, ◌-ℤ◌, ◌*ℤ◌, ◌≤ℤ◌, unsigned_abs}
use Rattle.std.proofs.Common.{mul_comm, ap}
use native.Mathlib.Nat.{mul-pos}
use Rattle.fx_fraction.specs.Fraction.{Fraction, denom, whole, over, plus, minus, times, divided, lesser, greater, absolute, distance, is_zero, Same, AtMost, Is}
use Rattle.fx_fraction.proofs.WholeNumbers.{int_le-pos, unsigned_abs-sub-add_le, unsigned_abs-sub-sub_le, unsigned_abs-sub-mul, unsigned_abs-sub-products_le, unsigned_abs-sub-crossed_le, unsigned_abs-sub-signs, unsigned_abs-sub-abs_le, unsigned_abs-sub-min_le, unsigned_abs-sub-max_le, int_max-pos, unsigned_abs-triangle, unsigned_abs-sub_comm, unsigned_abs-sub_self}
use Rattle.fx_fraction.proofs.Denominators.{is_self, is_nothing, is_whole, is_over, is_plus, is_minus, is_times, is_absolute, is_distance, is_lesser, is_greater, is_divided, is_divided_signed, is_scaled, is_renamed, not_zero_out, Same-in, AtMost-in, AtMost-in_cross, AtMost-out_cross, common_two, common_three, common_four}

-- two sums are no further apart than their parts together
pub distance-plus : (a b a' b' : Fraction) → AtMost (distance (plus a b) (plus a' b')) (plus (distance a a') (distance b b'))
distance-plus a b a' b' =
    let c = common_four a b a' b' in
    AtMost-in (is_distance (is_plus c.first c.second) (is_plus c.third c.fourth)) (is_plus (is_distance c.first c.third) (is_distance c.second c.fourth))
    (int_le-pos _ _ (unsigned_abs-sub-add_le c.x c.y c.z c.w))

-- nor are two differences
pub distance-minus : (a b a' b' : Fraction) → AtMost (distance (minus a b) (minus a' b')) (plus (distance a a') (distance b b'))
distance-minus a b a' b' =
    let c = common_four a b a' b' in
    AtMost-in (is_distance (is_minus c.first c.second) (is_minus c.third c.fourth)) (is_plus (is_distance c.first c.third) (is_distance c.second c.fourth))
    (int_le-pos _ _ (unsigned_abs-sub-sub_le c.x c.y c.z c.w))

-- a fixed factor stretches a distance by its absolute value
pub distance-times : (a a' k : Fraction) → Same (distance (times a k) (times a' k)) (times (distance a a') (absolute k))
distance-times a a' k =
    let c = common_three a a' k in
    Same-in (is_distance (is_times c.first c.third) (is_times c.second c.third)) (is_times (is_distance c.first c.second) (is_absolute c.third))
    (ap pos (unsigned_abs-sub-mul c.x c.y c.z))

-- two products, by the moves of their factors
pub distance-products : (a b a' b' : Fraction) → AtMost (distance (times a b) (times a' b')) (plus (plus (times (absolute a) (distance b b')) (times (absolute b) (distance a a'))) (times (distance a a') (distance b b')))
distance-products a b a' b' =
    let c = common_four a b a' b' in
    let da = is_distance c.first c.third in
    let db = is_distance c.second c.fourth in
    AtMost-in (is_distance (is_times c.first c.second) (is_times c.third c.fourth))
    (is_plus (is_plus (is_times (is_absolute c.first) db) (is_times (is_absolute c.second) da)) (is_times da db))
    (int_le-pos _ _ (unsigned_abs-sub-products_le c.x c.y c.z c.w))

-- two quotients by what is not 0, by the moves of dividend and divisor
pub distance-divided : (a b a' b' : Fraction) → is_zero b ≡ false → is_zero b' ≡ false → AtMost (distance (divided a b) (divided a' b')) (divided (plus (times (absolute a) (distance b b')) (times (absolute b) (distance a a'))) (times (absolute b) (absolute b')))
distance-divided a b a' b' p q =
    let c = common_four a b a' b' in
    let y = unsigned_abs c.y in
    let w = unsigned_abs c.w in
    let some_y : 1 ≤ unsigned_abs c.y = not_zero_out p c.second in
    let some_w : 1 ≤ unsigned_abs c.w = not_zero_out q c.fourth in
    let first = is_scaled w some_w (is_divided_signed c.y some_y c.first c.second) in
    let second = is_renamed (mul_comm w y) (is_scaled y some_y (is_divided_signed c.w some_w c.third c.fourth)) in
    let moves = is_plus (is_times (is_absolute c.first) (is_distance c.second c.fourth)) (is_times (is_absolute c.second) (is_distance c.first c.third)) in
    let bound = is_divided (mul-pos some_y some_w) moves (is_times (is_absolute c.second) (is_absolute c.fourth)) in
    AtMost-in (is_distance first second) bound (int_le-pos _ _ (rw (unsigned_abs-sub-signs c.x c.y c.z c.w) (unsigned_abs-sub-crossed_le c.x c.y c.z c.w)))

-- absolute values are no further apart than the fractions
pub distance-absolute : (a a' : Fraction) → AtMost (distance (absolute a) (absolute a')) (distance a a')
distance-absolute a a' =
    let c = common_two a a' in
    AtMost-in (is_distance (is_absolute c.first) (is_absolute c.second)) (is_distance c.first c.second)
    (int_le-pos _ _ (unsigned_abs-sub-abs_le c.x c.y))

-- the smaller of two moves no more than one of the two does
pub distance-lesser : (a b a' b' : Fraction) → AtMost (distance (lesser a b) (lesser a' b')) (greater (distance a a') (distance b b'))
distance-lesser a b a' b' =
    let c = common_four a b a' b' in
    AtMost-in (is_distance (is_lesser c.first c.second) (is_lesser c.third c.fourth)) (is_greater (is_distance c.first c.third) (is_distance c.second c.fourth))
    (rw (int_max-pos (unsigned_abs (c.x -ℤ c.z)) (unsigned_abs (c.y -ℤ c.w))) (int_le-pos _ _ (unsigned_abs-sub-min_le c.x c.y c.z c.w)))

-- nor does the larger of two
pub distance-greater : (a b a' b' : Fraction) → AtMost (distance (greater a b) (greater a' b')) (greater (distance a a') (distance b b'))
distance-greater a b a' b' =
    let c = common_four a b a' b' in
    AtMost-in (is_distance (is_greater c.first c.second) (is_greater c.third c.fourth)) (is_greater (is_distance c.first c.third) (is_distance c.second c.fourth))
    (rw (int_max-pos (unsigned_abs (c.x -ℤ c.z)) (unsigned_abs (c.y -ℤ c.w))) (int_le-pos _ _ (unsigned_abs-sub-max_le c.x c.y c.z c.w)))

-- the way by a third fraction is no shorter
pub distance_triangle : (a b c : Fraction) → AtMost (distance a c) (plus (distance a b) (distance b c))
distance_triangle a b c =
    let k = common_three a b c in
    AtMost-in (is_distance k.first k.third) (is_plus (is_distance k.first k.second) (is_distance k.second k.third))
    (int_le-pos _ _ (unsigned_abs-triangle k.x k.y k.z))

-- there is as far as back
pub distance_comm : (a b : Fraction) → Same (distance a b) (distance b a)
distance_comm a b =
    let c = common_two a b in
    Same-in (is_distance c.first c.second) (is_distance c.second c.first) (ap pos (unsigned_abs-sub_comm c.x c.y))

-- a fraction is at no distance from itself
pub distance_self : (a : Fraction) → Same (distance a a) (whole (pos 0))
distance_self a =
    let i = is_self a in
    Same-in (is_distance i i) (is_nothing (denom a) i.positive) (ap pos (unsigned_abs-sub_self a.numer))

-- ---- a bound of an error, over numerators

-- over the denominator of e the numerators say that m is within err / s of e
pub error_bound : (m err x : ℤ) (s d : ℕ) (e : Fraction) → 1 ≤ s → Is e d x → (pos (unsigned_abs (m *ℤ pos d -ℤ x)) *ℤ pos s) ≤ℤ (err *ℤ pos d) → AtMost (distance (whole m) e) (over err s)
error_bound m err x s d e p i h = AtMost-in_cross (is_distance (is_whole m d i.positive) i) (is_over err s p) h

-- and that it is says so of the numerators
pub bound_of_error : (m err x : ℤ) (s d : ℕ) (e : Fraction) → 1 ≤ s → Is e d x → AtMost (distance (whole m) e) (over err s) → (pos (unsigned_abs (m *ℤ pos d -ℤ x)) *ℤ pos s) ≤ℤ (err *ℤ pos d)
bound_of_error m err x s d e p i h = AtMost-out_cross (is_distance (is_whole m d i.positive) i) (is_over err s p) h
