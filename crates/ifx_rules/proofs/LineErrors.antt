-- The error of what is nowhere steeper than a slope, rounded downward.
use Rattle.std.specs.Prelude.{◌≡◌, ℕ, ◌*◌, ◌≤◌, ℤ, pos, ◌+ℤ◌, ◌*ℤ◌, ◌≤ℤ◌}
use Rattle.std.proofs.Common.{ap, subst, arith}
use Rattle.std.proofs.lemmas.Int.{ints}
use native.Mathlib.Nat.{mul-pos}
use Rattle.fx_fraction.specs.Fraction.{Fraction, whole, over, plus, distance, AtMost}
use Rattle.fx_fraction.proofs.Polynomials.{differences, as_difference, same}
use Rattle.fx_fraction.proofs.WholeNumbers.{int_add_comm, int_le_refl, int_le_trans, int_le-pos, int_le-mul_pos, int_le_of-mul}
use Rattle.fx_fraction.proofs.Denominators.{is_over, is_whole, is_plus, is_distance, common_two, AtMost-in_cross, AtMost-in, AtMost-out_cross}
use Rattle.fx_fraction.proofs.Order.{AtMost_trans, AtMost-plus, AtMost_of-Below}
use Rattle.fx_fraction.proofs.Distances.{distance_triangle}
use Rattle.fx_core.specs.declared.quotient.Mode.TheVariants.{Floor}
use Rattle.fx_core.specs.Values.{rounded_fraction}
use Rattle.fx_core.proofs.RoundingLaws.{least_quotient_above_bounds}
use Rattle.fx_core.proofs.RoundedFractions.{moves_less_than_one}
use Rattle.ifx_rules.specs.LookUpRules.{slope_error, slope_move}
use Rattle.ifx_rules.proofs.Slopes.{Near, near_out}

-- a is within err / 65536 of b
pub record IsNear (a b : Fraction) (err : ℤ) : Type 0 where
  pub near : AtMost (distance a b) (over err 65536)

both_errors : (err fel : ℤ) → AtMost (plus (over err 65536) (over fel 65536)) (over (err +ℤ fel) 65536)
both_errors err fel = AtMost-in (is_plus (is_over err 65536 (omega arith)) (is_over fel 65536 (omega arith))) (is_over (err +ℤ fel) 65536 (omega arith)) (int_le_refl _)

pub near_trans : (a b c : Fraction) (err fel : ℤ) → IsNear a b err → IsNear b c fel → IsNear a c (err +ℤ fel)
near_trans a b c err fel p q = record {
  near = AtMost_trans (distance a c) (plus (distance a b) (distance b c)) (over (err +ℤ fel) 65536) (distance_triangle a b c)
      (AtMost_trans (plus (distance a b) (distance b c)) (plus (over err 65536) (over fel 65536)) (over (err +ℤ fel) 65536) (AtMost-plus (distance a b) (over err 65536) (distance b c) (over fel 65536) p.near q.near) (both_errors err fel));
}

one : AtMost (whole (pos 1)) (over (pos 65536) 65536)
one = AtMost-in_cross (is_whole (pos 1) 1 (omega arith)) (is_over (pos 65536) 65536 (omega arith)) (omega (arith, ints))

-- rounding downward moves by less than one count
pub floor_near : (f e : Fraction) (err : ℤ) → IsNear f e err → IsNear (whole (rounded_fraction Floor f)) e (err +ℤ pos 65536)
floor_near f e err p =
    let r = whole (rounded_fraction Floor f) in
    let moved : IsNear r f (pos 65536) = record { near = AtMost_trans (distance r f) (whole (pos 1)) (over (pos 65536) 65536) (AtMost_of-Below (distance r f) (whole (pos 1)) (moves_less_than_one Floor f)) one } in
    subst (IsNear r e) (int_add_comm (pos 65536) err) (near_trans r f e (pos 65536) err moved p)

-- ---- over numerators

left_side : (a : ℕ) (G d : ℕ) → pos (a * G * d) *ℤ pos 65536 ≡ pos a *ℤ pos 65536 *ℤ pos (G * d)
left_side a G d = ap pos (omega arith)

middle : (err : ℤ) (D d l : ℕ) → err *ℤ pos d *ℤ pos (D * l) ≡ pos D *ℤ err *ℤ pos (d * l)
middle err D d l = rw (as_difference err) (simp differences (same _ _ _ _ (omega arith)))

right_side : (c : ℤ) (G d l : ℕ) → c *ℤ pos G *ℤ pos (d * l) ≡ c *ℤ pos l *ℤ pos (G * d)
right_side c G d l = rw (as_difference c) (simp differences (same _ _ _ _ (omega arith)))

moved_over : (b D l : ℕ) → pos (b * D * l) *ℤ pos 65536 ≡ pos b *ℤ pos 65536 *ℤ pos (D * l)
moved_over b D l = ap pos (omega arith)

slope_step : (a b D G d l : ℕ) (err c : ℤ) → 1 ≤ G → 1 ≤ d → a * G * d ≤ b * D * l → (pos b *ℤ pos 65536) ≤ℤ (err *ℤ pos d) → (pos D *ℤ err) ≤ℤ (c *ℤ pos G) → (pos a *ℤ pos 65536) ≤ℤ (c *ℤ pos l)
slope_step a b D G d l err c p q h k m =
    let first : (pos a *ℤ pos 65536 *ℤ pos (G * d)) ≤ℤ (pos b *ℤ pos 65536 *ℤ pos (D * l)) = rw (← left_side a G d, ← moved_over b D l) (int_le-mul_pos _ _ 65536 (int_le-pos _ _ h)) in
    let second : (pos b *ℤ pos 65536 *ℤ pos (D * l)) ≤ℤ (pos D *ℤ err *ℤ pos (d * l)) = rw (← middle err D d l) (int_le-mul_pos _ _ (D * l) k) in
    let third : (pos D *ℤ err *ℤ pos (d * l)) ≤ℤ (c *ℤ pos l *ℤ pos (G * d)) = rw (← right_side c G d l) (int_le-mul_pos _ _ (d * l) m) in
    int_le_of-mul _ _ (G * d) (mul-pos p q) (int_le_trans _ _ _ first (int_le_trans _ _ _ second third))

-- what is as near as D / G times the way, is within the error times that
pub slope_near : (D G : ℕ) (x y f h : Fraction) (err : ℤ) → 1 ≤ G → Near D G x y f h → IsNear x y err → IsNear f h (slope_move (pos D) (pos G) err)
slope_near D G x y f h err some n p =
    let c = common_two x y in
    let k = common_two f h in
    let above = (least_quotient_above_bounds (pos D *ℤ err) (pos G) (int_le-pos _ _ some)).0 in
    let moves = near_out c.first c.second k.first k.second n in
    let way = AtMost-out_cross (is_distance c.first c.second) (is_over err 65536 (omega arith)) p.near in
    record { near = AtMost-in_cross (is_distance k.first k.second) (is_over _ 65536 (omega arith)) (slope_step _ _ D G c.bottom k.bottom err _ some c.first.positive moves way above) }

-- and so is what it is rounded to, within one count more
pub slope_error_near : (D G : ℕ) (x y f h : Fraction) (err : ℤ) → 1 ≤ G → Near D G x y f h → IsNear x y err → IsNear (whole (rounded_fraction Floor f)) h (slope_error (pos D) (pos G) err)
slope_error_near D G x y f h err some n p = floor_near f h _ (slope_near D G x y f h err some n p)
