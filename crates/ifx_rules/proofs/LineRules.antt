-- A function that is a broken line keeps the rule of its hull and its slope.
use Rattle.std.specs.Prelude.{ℕ, ◌≤◌, List, [], ◌∷◌, ℤ, pos, ◌≤ℤ◌, ◌*ℤ◌}
use Rattle.std.proofs.Common.{refl, sym, subst, arith}
use Rattle.fx_fraction.specs.Fraction.{Fraction, whole, Same}
use Rattle.fx_fraction.proofs.WholeNumbers.{int_le-add, int_le_refl, int_le-pos}
use Rattle.fx_fraction.proofs.Denominators.{is_same, common_two}
use Rattle.part_rules.specs.declared.bounds.Bounds.{Bounds}
use Rattle.part_rules.specs.Within.{IsWithin}
use Rattle.part_rules.specs.PartRules.{KeepsRule, IsNarrower, LiesInside, bounds_at}
use Rattle.part_rules.specs.Ranges.{corners_at, corner_values}
use Rattle.part_rules.proofs.RangesGrow.{AreNarrower, corners_inside, hull_inside, values_inside}
use Rattle.part_rules.proofs.ErrorsGrow.{above_grows, products_grow}
use Rattle.ifx_rules.specs.LookUpRules.{rounded_down, hull_at, slope_error, slope_move}
use Rattle.ifx_rules.specs.KeptRules.{FitAll, one_read, rounds_down}
use Rattle.ifx_rules.proofs.Slopes.{Near, near_in, near_out, line_near_any}
use Rattle.ifx_rules.proofs.LineErrors.{slope_error_near}
use Rattle.ifx_rules.proofs.LineRanges.{IsLine, line_in_hull}

near_named : {D G : ℕ} (x y f h f' h' : Fraction) → Same f' f → Same h' h → Near D G x y f h → Near D G x y f' h'
near_named x y f h f' h' p q n =
    let c = common_two x y in
    let k = common_two f h in
    near_in c.first c.second (is_same (sym p) k.first) (is_same (sym q) k.second) (near_out c.first c.second k.first k.second n)

pub line_near_named : {D G : ℕ} (value : Fraction → Fraction) (points : List ℤ) (l : IsLine D G value points) (x y : Fraction) → Near D G x y (value x) (value y)
line_near_named value points l x y = near_named x y _ _ (value x) (value y) (l.same x) (l.same y) (line_near_any (l.first ∷ l.knots) l.gentle x y)

-- the bounds that the rule gives
abbrev pub line_bounds : ℕ → ℕ → (Fraction → Fraction) → List ℤ → (ℕ → Bounds) → Bounds
line_bounds D G value points given = hull_at value points (given 0) (slope_error (pos D) (pos G) (given 0).err)

line_within : {D G : ℕ} (value : Fraction → Fraction) (points : List ℤ) → 1 ≤ G → IsLine D G value points → (given : ℕ → Bounds) (m : ℤ) (e : Fraction) → IsWithin (given 0) m e → IsWithin (line_bounds D G value points given) (rounded_down value m) (value e)
line_within {D} {G} value points some l given m e w =
    let hull = line_in_hull value points (given 0) (slope_error (pos D) (pos G) (given 0).err) l m w.low w.high in
    record { low = hull.low; high = hull.high; near = (slope_error_near D G (whole m) e (value (whole m)) (value e) (given 0).err some (line_near_named value points l (whole m) e) (record { near = w.near })).near }

pub move_grows : (D G : ℕ) (err fel : ℤ) → 1 ≤ G → pos 0 ≤ℤ err → err ≤ℤ fel → slope_move (pos D) (pos G) err ≤ℤ slope_move (pos D) (pos G) fel
move_grows D G err fel some p h =
    let product : (pos D *ℤ err) ≤ℤ (pos D *ℤ fel) = products_grow _ _ _ _ (int_le-pos _ _ (omega arith)) p (int_le_refl _) h in
    above_grows _ _ (pos G) (int_le-pos _ _ some) product

error_grows : (D G : ℕ) (err fel : ℤ) → 1 ≤ G → pos 0 ≤ℤ err → err ≤ℤ fel → slope_error (pos D) (pos G) err ≤ℤ slope_error (pos D) (pos G) fel
error_grows D G err fel some p h = int_le-add _ _ _ _ (move_grows D G err fel some p h) (int_le_refl (pos 65536))

line_grows : {D G : ℕ} (value : Fraction → Fraction) (points : List ℤ) → 1 ≤ G → IsLine D G value points → (narrow wide : ℕ → Bounds) → IsNarrower (narrow 0) (wide 0) → LiesInside (line_bounds D G value points narrow) (line_bounds D G value points wide)
line_grows {D} {G} value points some l narrow wide n =
    let lo = (line_bounds D G value points wide).lo in
    let hi = (line_bounds D G value points wide).hi in
    let here : AreNarrower 1 narrow wide = λ p h. subst (λ q. IsNarrower (narrow q) (wide q)) (omega (arith, h)) n in
    let hull = hull_inside lo hi (corner_values (λ m. rounded_down value (m 0)) (corners_at (narrow 0) points ∷ [])) (omega arith)
    (values_inside 1 (λ m. rounded_down value (m 0)) (corners_at (narrow 0) points ∷ []) narrow wide lo hi (corners_inside (narrow 0) points n.proper.ordered, tt) here
    (λ m i. line_in_hull value points (wide 0) (slope_error (pos D) (pos G) (wide 0).err) l (m 0) (i 0 (omega arith)).low (i 0 (omega arith)).high)) in
    record { low = hull.low; high = hull.high; error = error_grows D G _ _ some n.proper.positive n.inside.error }

pub line_keeps_rule : {D G : ℕ} (value : Fraction → Fraction) (points : List ℤ) → 1 ≤ G → IsLine D G value points → KeepsRule (one_read (line_bounds D G value points)) (rounds_down value) FitAll
line_keeps_rule value points some l = record {
  sound = λ given m e fit ruled within. record { machine_divides = tt; exact_divides = tt; within = line_within value points some l (bounds_at given) (m 0) (e 0) (within 0 (omega arith)) };
  monotone = λ narrow wide fit ruled n. (refl, line_grows value points some l (bounds_at narrow) (bounds_at wide) (n 0 (omega arith)));
}
