-- A function of two fractions that is part of a broken line along each keeps the rule of its hull and its two slopes.
use Rattle.std.specs.Prelude.{ℕ, zero, suc, ◌≤◌, List, [], ◌∷◌, ℤ, pos}
use Rattle.std.proofs.Common.{refl, arith}
use Rattle.fx_fraction.specs.Fraction.{Fraction, whole}
use Rattle.fx_fraction.proofs.WholeNumbers.{int_le-add, int_le_refl}
use Rattle.fx_core.specs.declared.quotient.Mode.TheVariants.{Floor}
use Rattle.fx_core.specs.Values.{rounded_fraction}
use Rattle.part_rules.specs.declared.bounds.Bounds.{Bounds}
use Rattle.part_rules.specs.Within.{IsWithin}
use Rattle.part_rules.specs.PartRules.{KeepsRule, IsNarrower, LiesInside, bounds_at}
use Rattle.part_rules.specs.Ranges.{corners_at, corner_values, least_among, greatest_among}
use Rattle.part_rules.proofs.CornerHulls.{IsInside}
use Rattle.part_rules.proofs.RangesGrow.{AreNarrower, Each, corners_inside, hull_inside, values_inside}
use Rattle.ifx_rules.specs.LookUpRules.{slope_move}
use Rattle.ifx_rules.specs.MapRules.{both_rounded_down, hull_over, moves_error}
use Rattle.ifx_rules.specs.KeptRules.{FitAll, two_read, both_round_down}
use Rattle.ifx_rules.proofs.LineErrors.{IsNear, near_trans, floor_near, slope_near}
use Rattle.ifx_rules.proofs.LineRanges.{FloorInside, each_in_hull, each_turned, floor_convex}
use Rattle.ifx_rules.proofs.LineRules.{move_grows}
use Rattle.ifx_rules.proofs.PartLines.{IsPartLine, part_near, part_inside}
use Rattle.ifx_rules.proofs.TwoHulls.{each_corner}

-- part of a line along x wherever y is, no steeper than Dx / Gx, and along y wherever x is, no steeper than Dy / Gy
pub record IsTwoWay (Dx Gx Dy Gy : ℕ) (value : Fraction → Fraction → Fraction) (points_x points_y : List ℤ) : Type 0 where
  pub along_x : (y : Fraction) → IsPartLine Dx Gx (λ x. value x y) points_x
  pub along_y : (x : Fraction) → IsPartLine Dy Gy (value x) points_y

-- ---- the error, one direction after the other

abbrev two_error : ℕ → ℕ → ℕ → ℕ → ℤ → ℤ → ℤ
two_error Dx Gx Dy Gy err fel = moves_error (slope_move (pos Dx) (pos Gx) err) (slope_move (pos Dy) (pos Gy) fel)

two_near : {Dx Gx Dy Gy : ℕ} (value : Fraction → Fraction → Fraction) (points_x points_y : List ℤ) → 1 ≤ Gx → 1 ≤ Gy → IsTwoWay Dx Gx Dy Gy value points_x points_y → (x y u v : Fraction) (err fel : ℤ) → IsNear x u err → IsNear y v fel →
    IsNear (whole (rounded_fraction Floor (value x y))) (value u v) (two_error Dx Gx Dy Gy err fel)
two_near {Dx} {Gx} {Dy} {Gy} value points_x points_y some_x some_y w x y u v err fel p q =
    let along_x = slope_near Dx Gx x u (value x y) (value u y) err some_x (part_near (λ x. value x y) points_x (w.along_x y) x u) p in
    let along_y = slope_near Dy Gy y v (value u y) (value u v) fel some_y (part_near (value u) points_y (w.along_y u) y v) q in
    floor_near (value x y) (value u v) _ (near_trans (value x y) (value u y) (value u v) _ _ along_x along_y)

-- ---- the range, one direction after the other

two_inside : {Dx Gx Dy Gy : ℕ} (value : Fraction → Fraction → Fraction) (points_x points_y : List ℤ) (x y : Bounds) (err : ℤ) → IsTwoWay Dx Gx Dy Gy value points_x points_y → (m n : ℤ) → IsInside x.lo x.hi m → IsInside y.lo y.hi n →
    IsInside (hull_over value points_x points_y x y err).lo (hull_over value points_x points_y x y err).hi (both_rounded_down value m n)
two_inside value points_x points_y x y err w m n i j =
    let vs = corner_values (λ c. both_rounded_down value (c 0) (c 1)) (corners_at x points_x ∷ corners_at y points_y ∷ []) in
    let lo = least_among vs in
    let hi = greatest_among vs in
    let P : Fraction → Type 0 = FloorInside lo hi in
    let convex = floor_convex lo hi in
    let corners = each_corner (IsInside lo hi) (both_rounded_down value) (corners_at x points_x) (corners_at y points_y) (each_in_hull vs) in
    let along_y = each_turned (λ a. Each (λ b. P (value (whole a) (whole b))) (corners_at y points_y)) (λ a. P (value (whole a) (whole n)))
    (λ a each. part_inside P (value (whole a)) points_y y convex (w.along_y (whole a)) n j.low j.high each) (corners_at x points_x) corners in
    part_inside P (λ a. value a (whole n)) points_x x convex (w.along_x (whole n)) m i.low i.high along_y

-- ---- the rule

abbrev pub two_bounds : ℕ → ℕ → ℕ → ℕ → (Fraction → Fraction → Fraction) → List ℤ → List ℤ → (ℕ → Bounds) → Bounds
two_bounds Dx Gx Dy Gy value points_x points_y given = hull_over value points_x points_y (given 0) (given 1) (two_error Dx Gx Dy Gy (given 0).err (given 1).err)

two_within : {Dx Gx Dy Gy : ℕ} (value : Fraction → Fraction → Fraction) (points_x points_y : List ℤ) → 1 ≤ Gx → 1 ≤ Gy → IsTwoWay Dx Gx Dy Gy value points_x points_y → (given : ℕ → Bounds) (m n : ℤ) (e f : Fraction) → IsWithin (given 0) m e → IsWithin (given 1) n f →
    IsWithin (two_bounds Dx Gx Dy Gy value points_x points_y given) (both_rounded_down value m n) (value e f)
two_within {Dx} {Gx} {Dy} {Gy} value points_x points_y some_x some_y w given m n e f p q =
    let hull = two_inside value points_x points_y (given 0) (given 1) (two_error Dx Gx Dy Gy (given 0).err (given 1).err) w m n (record { low = p.low; high = p.high }) (record { low = q.low; high = q.high }) in
    record {
      low = hull.low;
      high = hull.high;
      near = (two_near value points_x points_y some_x some_y w (whole m) (whole n) e f (given 0).err (given 1).err (record { near = p.near }) (record { near = q.near })).near;
    }

both_narrower : (narrow wide : ℕ → Bounds) → IsNarrower (narrow 0) (wide 0) → IsNarrower (narrow 1) (wide 1) → AreNarrower 2 narrow wide
both_narrower narrow wide p q zero h = p
both_narrower narrow wide p q (suc zero) h = q
both_narrower narrow wide p q (suc (suc n)) h = absurd (omega (arith, h))

two_grow : {Dx Gx Dy Gy : ℕ} (value : Fraction → Fraction → Fraction) (points_x points_y : List ℤ) → 1 ≤ Gx → 1 ≤ Gy → IsTwoWay Dx Gx Dy Gy value points_x points_y → (narrow wide : ℕ → Bounds) → IsNarrower (narrow 0) (wide 0) → IsNarrower (narrow 1) (wide 1) →
    LiesInside (two_bounds Dx Gx Dy Gy value points_x points_y narrow) (two_bounds Dx Gx Dy Gy value points_x points_y wide)
two_grow {Dx} {Gx} {Dy} {Gy} value points_x points_y some_x some_y w narrow wide p q =
    let bounds = two_bounds Dx Gx Dy Gy value points_x points_y wide in
    let corners = corners_at (narrow 0) points_x ∷ corners_at (narrow 1) points_y ∷ [] in
    let hull = hull_inside bounds.lo bounds.hi (corner_values (λ m. both_rounded_down value (m 0) (m 1)) corners) (omega arith)
    (values_inside 2 (λ m. both_rounded_down value (m 0) (m 1)) corners narrow wide bounds.lo bounds.hi
    (corners_inside (narrow 0) points_x p.proper.ordered, (corners_inside (narrow 1) points_y q.proper.ordered, tt))
    (both_narrower narrow wide p q)
    (λ m i. two_inside value points_x points_y (wide 0) (wide 1) bounds.err w (m 0) (m 1) (i 0 (omega arith)) (i 1 (omega arith)))) in
    record {
      low = hull.low;
      high = hull.high;
      error = int_le-add _ _ _ _ (int_le-add _ _ _ _ (move_grows Dx Gx _ _ some_x p.proper.positive p.inside.error) (move_grows Dy Gy _ _ some_y q.proper.positive q.inside.error)) (int_le_refl (pos 65536));
    }

pub two_way_keeps_rule : {Dx Gx Dy Gy : ℕ} (value : Fraction → Fraction → Fraction) (points_x points_y : List ℤ) → 1 ≤ Gx → 1 ≤ Gy → IsTwoWay Dx Gx Dy Gy value points_x points_y →
    KeepsRule (two_read (two_bounds Dx Gx Dy Gy value points_x points_y)) (both_round_down value) FitAll
two_way_keeps_rule value points_x points_y some_x some_y w = record {
  sound = λ given m e fit ruled within. record {
    machine_divides = tt;
    exact_divides = tt;
    within = two_within value points_x points_y some_x some_y w (bounds_at given) (m 0) (m 1) (e 0) (e 1) (within 0 (omega arith)) (within 1 (omega arith));
  };
  monotone = λ narrow wide fit ruled n. (refl, two_grow value points_x points_y some_x some_y w (bounds_at narrow) (bounds_at wide) (n 0 (omega arith)) (n 1 (omega arith)));
}
