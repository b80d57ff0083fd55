-- What multiplying by a whole number, dividing by one and rounding to the nearest do to errors.
use Rattle.std.specs.Prelude.{◌≡◌, ℕ, ◌*◌, ◌≤◌, ℤ, pos, ◌+ℤ◌, ◌-ℤ◌, ◌*ℤ◌, ◌≤ℤ◌, unsigned_abs}
use Rattle.std.proofs.Common.{ap, subst, arith, ◌∙◌}
use Rattle.std.proofs.lemmas.Int.{ints}
use native.Mathlib.Nat.{mul-pos}
use Rattle.fx_fraction.specs.Fraction.{Fraction, denom, whole, over, plus, times, divided, distance, AtMost, Is, Same}
use Rattle.fx_fraction.proofs.Polynomials.{differences, as_difference, same}
use Rattle.fx_fraction.proofs.WholeNumbers.{int_add_comm, int_le_refl, int_le_trans, int_le-pos, int_le_of-eq, int_le-mul_pos, int_mul-one, int_mul_right_comm, unsigned_abs-sub-mul}
use Rattle.fx_fraction.proofs.Denominators.{is_over, is_plus, is_times, is_whole, is_divided, is_distance, is_renamed, is_same, common_two, AtMost-in, AtMost-in_cross, AtMost-out_cross}
use Rattle.fx_fraction.proofs.Order.{AtMost_trans, AtMost-plus}
use Rattle.fx_fraction.proofs.Distances.{distance_triangle}
use Rattle.fx_core.specs.declared.quotient.Mode.TheVariants.{Near as Nearest}
use Rattle.fx_core.specs.Rounding.{rounded, least_quotient_above}
use Rattle.fx_core.specs.Values.{rounded_fraction}
use Rattle.fx_core.proofs.RoundingLaws.{least_quotient_above_bounds, rounded-*ℤ}
use Rattle.fx_core.proofs.RoundedFractions.{moves_at_most_a_half}
use Rattle.part_rules.proofs.Nearness.{Near}

-- ---- rounding

-- one way after the other
both_errors : (err fel : ℤ) → AtMost (plus (over err 65536) (over fel 65536)) (over (err +ℤ fel) 65536)
both_errors err fel = AtMost-in (is_plus (is_over err 65536 (omega arith)) (is_over fel 65536 (omega arith))) (is_over (err +ℤ fel) 65536 (omega arith)) (int_le_refl _)

near_trans : (a b c : Fraction) (err fel : ℤ) → Near a b err → Near b c fel → Near a c (err +ℤ fel)
near_trans a b c err fel p q = record {
  near = AtMost_trans (distance a c) (plus (distance a b) (distance b c)) (over (err +ℤ fel) 65536) (distance_triangle a b c)
      (AtMost_trans (plus (distance a b) (distance b c)) (plus (over err 65536) (over fel 65536)) (over (err +ℤ fel) 65536) (AtMost-plus (distance a b) (over err 65536) (distance b c) (over fel 65536) p.near q.near) (both_errors err fel));
}

half : AtMost (over (pos 1) 2) (over (pos 32768) 65536)
half = AtMost-in_cross (is_over (pos 1) 2 (omega arith)) (is_over (pos 32768) 65536 (omega arith)) (omega (arith, ints))

pub near_rounded : (f e : Fraction) (err : ℤ) → Near f e err → Near (whole (rounded_fraction Nearest f)) e (err +ℤ pos 32768)
near_rounded f e err p =
    let r = whole (rounded_fraction Nearest f) in
    let moved : Near r f (pos 32768) = record { near = AtMost_trans (distance r f) (over (pos 1) 2) (over (pos 32768) 65536) (moves_at_most_a_half f) half } in
    subst (Near r e) (int_add_comm (pos 32768) err) (near_trans r f e (pos 32768) err moved p)

-- ---- over a common denominator

numerators : (a b : Fraction) (err x y : ℤ) (d : ℕ) → Is a d x → Is b d y → Near a b err → (pos (unsigned_abs (x -ℤ y)) *ℤ pos 65536) ≤ℤ (err *ℤ pos d)
numerators a b err x y d i j p = AtMost-out_cross (is_distance i j) (is_over err 65536 (omega arith)) p.near

from_numerators : (a b : Fraction) (err x y : ℤ) (d : ℕ) → Is a d x → Is b d y → (pos (unsigned_abs (x -ℤ y)) *ℤ pos 65536) ≤ℤ (err *ℤ pos d) → Near a b err
from_numerators a b err x y d i j h = record { near = AtMost-in_cross (is_distance i j) (is_over err 65536 (omega arith)) h }

-- what is a whole number isn't moved by rounding
pub near_rounded_whole : (f e : Fraction) (z err : ℤ) → f.numer ≡ z *ℤ pos (denom f) → Near f e err → Near (whole (rounded_fraction Nearest f)) e err
unfolding whole
near_rounded_whole f e z err is p =
    let c = common_two f e in
    let stays : rounded_fraction Nearest f ≡ z = ap (λ n. rounded Nearest n (pos (denom f))) is ∙ rounded-*ℤ Nearest z (pos (denom f)) (omega (arith, ints)) in
    let named : Same f (whole z) = int_mul-one f.numer ∙ is in
    rw stays (from_numerators (whole z) e err c.x c.y c.bottom (is_same named c.first) c.second (numerators f e err c.x c.y c.bottom c.first c.second p))

-- ---- a whole factor

is_factor : (k : ℤ) → Is (whole k) 1 k
is_factor k = rw int_mul-one at (is_whole k 1 (omega arith))

times_step : (x y k err : ℤ) (d : ℕ) → (pos (unsigned_abs (x -ℤ y)) *ℤ pos 65536) ≤ℤ (err *ℤ pos d) → (pos (unsigned_abs (x *ℤ k -ℤ y *ℤ k)) *ℤ pos 65536) ≤ℤ (err *ℤ pos (unsigned_abs k) *ℤ pos d)
times_step x y k err d h =
    let wide = int_le-mul_pos _ _ (unsigned_abs k) h in
    rw (unsigned_abs-sub-mul x y k, int_mul_right_comm err (pos (unsigned_abs k)) (pos d)) (int_le_trans _ _ _ (int_le_of-eq _ _ (int_mul_right_comm (pos (unsigned_abs (x -ℤ y))) (pos (unsigned_abs k)) (pos 65536))) wide)

pub near_times : (a b : Fraction) (k err : ℤ) → Near a b err → Near (times a (whole k)) (times b (whole k)) (err *ℤ pos (unsigned_abs k))
near_times a b k err p =
    let c = common_two a b in
    let h = numerators a b err c.x c.y c.bottom c.first c.second p in
    from_numerators (times a (whole k)) (times b (whole k)) (err *ℤ pos (unsigned_abs k)) (c.x *ℤ k) (c.y *ℤ k) c.bottom
    (is_renamed (omega arith) (is_times c.first (is_factor k))) (is_renamed (omega arith) (is_times c.second (is_factor k))) (times_step c.x c.y k err c.bottom h)

-- ---- a whole divisor

is_over_whole : (e : Fraction) (d k : ℕ) (x : ℤ) → 1 ≤ k → Is e d x → Is (divided e (whole (pos k))) (k * d) x
is_over_whole e d k x p i = is_divided {f = e} {g = whole (pos k)} {d = d} {x = x} {n = k * d} (mul-pos p i.positive) i (is_whole (pos k) d i.positive)

regroup : (q : ℤ) (k d : ℕ) → q *ℤ pos k *ℤ pos d ≡ q *ℤ pos (k * d)
regroup q k d = rw (as_difference q) (simp differences (same _ _ _ _ (omega arith)))

divided_step : (x y err q : ℤ) (d k : ℕ) → err ≤ℤ (q *ℤ pos k) → (pos (unsigned_abs (x -ℤ y)) *ℤ pos 65536) ≤ℤ (err *ℤ pos d) → (pos (unsigned_abs (x -ℤ y)) *ℤ pos 65536) ≤ℤ (q *ℤ pos (k * d))
divided_step x y err q d k above h = int_le_trans _ _ _ h (int_le_trans _ _ _ (int_le-mul_pos err (q *ℤ pos k) d above) (int_le_of-eq _ _ (regroup q k d)))

pub near_divided : (a b : Fraction) (k : ℕ) (err : ℤ) → 1 ≤ k → Near a b err → Near (divided a (whole (pos k))) (divided b (whole (pos k))) (least_quotient_above err (pos k))
near_divided a b k err some p =
    let c = common_two a b in
    let h = numerators a b err c.x c.y c.bottom c.first c.second p in
    let above = (least_quotient_above_bounds err (pos k) (int_le-pos _ _ some)).0 in
    from_numerators (divided a (whole (pos k))) (divided b (whole (pos k))) (least_quotient_above err (pos k)) c.x c.y (k * c.bottom)
    (is_over_whole a c.bottom k c.x some c.first) (is_over_whole b c.bottom k c.y some c.second) (divided_step c.x c.y err _ c.bottom k above h)
