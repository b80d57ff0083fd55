-- The look-ups as broken lines with the slopes of their rules.
use Rattle.std.specs.Prelude.{◌≡◌, ℕ, zero, suc, ◌+◌, ◌*◌, ◌-◌, ◌<◌, ◌≤◌, min, max, List, [], ◌∷◌, length, map, ℤ, pos, ◌+ℤ◌, ◌-ℤ◌, ◌<ℤ◌, unsigned_abs}
use Rattle.std.specs.List.{range_with_len}
use Rattle.std.proofs.Common.{refl, sym, ap, ◌∙◌, subst, arith, mul-le-mul, le_refl, eq-or-lt_of_le, inl, inr, ◌⊎◌}
use Rattle.std.proofs.lemmas.Int.{ints}
use Rattle.ifx_search.specs.Axes.{point_at}
use Rattle.ifx_search.specs.Positions.{position}
use Rattle.ifx_curves.specs.Curves.{curve}
use Rattle.ifx_curves.specs.Slopes.{step_at, greatest_of_steps, step_of, slope_at, steeper, steepest_of as curve_steepest_of, slope_of}
use Rattle.ifx_maps.specs.Slopes.{greatest_of, steepest_of}
use Rattle.ifx_rules.specs.LookUpRules.{gap_at, least_of_gaps, gap_of, whole_positions, curve_over}
use Rattle.ifx_rules.specs.KeptRules.{AreAxis}
use Rattle.ifx_rules.proofs.Slopes.{AreGentle}
use Rattle.ifx_rules.proofs.LookUpLines.{position_knots, curve_knots, pair_knots, DoRise, next_up, position_line, curve_line, pair_line}
use Rattle.ifx_rules.proofs.LineRanges.{IsLine}
use Rattle.ifx_rules.proofs.Steepest.{greatest_above, steepest, steepest_some}

-- ---- positions: 65536 a gap

below_by : (points : List ℤ) (n i : ℕ) → (i ≤ n → least_of_gaps points n ≤ gap_at points i) → (i ≡ suc n) ⊎ (i < suc n) → min (least_of_gaps points n) (gap_at points (suc n)) ≤ gap_at points i
below_by points n i r (inl e) = subst (λ k. min (least_of_gaps points n) (gap_at points (suc n)) ≤ gap_at points k) (sym e) (omega arith)
below_by points n i r (inr l) = omega (arith, r (omega arith))

gap_below : (points : List ℤ) (n i : ℕ) → i ≤ n → least_of_gaps points n ≤ gap_at points i
unfolding least_of_gaps
gap_below points zero i h = subst (λ k. gap_at points 0 ≤ gap_at points k) {x = 0} {y = i} (omega arith) (le_refl (gap_at points 0))
gap_below points (suc n) i h = below_by points n i (gap_below points n i) (eq-or-lt_of_le h)

gap_some : (points : List ℤ) (n : ℕ) → ((i : ℕ) → i ≤ n → 1 ≤ gap_at points i) → 1 ≤ least_of_gaps points n
unfolding least_of_gaps
gap_some points zero h = h 0 (omega arith)
gap_some points (suc n) h = omega (arith, gap_some points n (λ i l. h i (omega arith)), h (suc n) (omega arith))

some_gap : (p q : ℤ) → p <ℤ q → 1 ≤ unsigned_abs (q -ℤ p)
some_gap p q h = omega (arith, ints, h)

rise_of : (h : ℤ) → unsigned_abs (h +ℤ pos 65536 -ℤ h) ≡ 65536
rise_of h = ap unsigned_abs (next_up h)

gentle_positions : (G : ℕ) (h : ℤ) (points : List ℤ) → ((i : ℕ) → suc i < length points → point_at points i <ℤ point_at points (suc i)) → ((i : ℕ) → suc i < length points → G ≤ gap_at points i) → AreGentle 65536 G (position_knots h points)
gentle_positions G h [] r g = tt
gentle_positions G h (p ∷ []) r g = tt
gentle_positions G h (p ∷ q ∷ points) r g = (
  record { rising = r 0 (omega arith); gentle = rw (rise_of h) (mul-le-mul (le_refl 65536) (g 0 (omega arith))) },
  gentle_positions G (h +ℤ pos 65536) (q ∷ points) (λ i l. r (suc i) (omega arith)) (λ i l. g (suc i) (omega arith)),
)

position_places : (h : ℤ) (points : List ℤ) → map (λ k. k.place) (position_knots h points) ≡ points
position_places h [] = refl
position_places h (p ∷ points) = ap (λ ps. p ∷ ps) (position_places (h +ℤ pos 65536) points)

pub position_is_line : (points : List ℤ) → AreAxis points → IsLine 65536 (gap_of points) (position points) points
position_is_line [] a = absurd (omega (arith, a.some))
position_is_line (p ∷ points) a = record {
  first = record { place = p; height = pos 0 };
  knots = position_knots (pos 65536) points;
  places = position_places (pos 0) (p ∷ points);
  gentle = gentle_positions (gap_of (p ∷ points)) (pos 0) (p ∷ points) a.rising (λ i l. gap_below (p ∷ points) (length (p ∷ points) - 2) i (omega arith));
  same = position_line p points;
}

pub position_line_knots : (p : ℤ) (points : List ℤ) (a : AreAxis (p ∷ points)) → (position_is_line (p ∷ points) a).first ∷ (position_is_line (p ∷ points) a).knots ≡ position_knots (pos 0) (p ∷ points)
unfolding position_is_line
position_line_knots p points a = refl

pub some_gap_of : (points : List ℤ) → AreAxis points → 1 ≤ gap_of points
some_gap_of points a = gap_some points (length points - 2) (λ i l. some_gap (point_at points i) (point_at points (suc i)) (a.rising i (omega (arith, a.some))))

-- ---- curves: the greatest step each 65536

greatest_same : (values : List ℤ) (n : ℕ) → greatest_of (step_at values) n ≡ greatest_of_steps values n
unfolding greatest_of greatest_of_steps
greatest_same values zero = refl
greatest_same values (suc n) = ap (λ g. max g (step_at values n)) (greatest_same values n)

step_above : (values : List ℤ) (n i : ℕ) → i < n → step_at values i ≤ greatest_of_steps values n
step_above values n i h = subst (λ g. step_at values i ≤ g) (greatest_same values n) (greatest_above (step_at values) n i h)

gentle_curve : (D : ℕ) (z : ℤ) (values : List ℤ) → ((i : ℕ) → suc i < length values → step_at values i ≤ D) → AreGentle D 65536 (curve_knots z values)
gentle_curve D z [] g = tt
gentle_curve D z (v ∷ []) g = tt
gentle_curve D z (v ∷ w ∷ values) g = (
  record { rising = omega (arith, ints); gentle = rw (rise_of z) (mul-le-mul (g 0 (omega arith)) (le_refl 65536)) },
  gentle_curve D (z +ℤ pos 65536) (w ∷ values) (λ i l. g (suc i) (omega arith)),
)

curve_places : (k : ℕ) (values : List ℤ) → map (λ k. k.place) (curve_knots (pos (65536 * k)) values) ≡ map (λ i. pos (65536 * i)) (range_with_len k (length values))
curve_places k [] = refl
curve_places k (v ∷ values) = ap (λ ps. pos (65536 * k) ∷ ps) (ap (λ z. map (λ k. k.place) (curve_knots z values)) (ap pos (omega arith)) ∙ curve_places (k + 1) values)

-- a curve is a line, no steeper than any step that is at least each of its own
pub curve_line_by : (D : ℕ) (values : List ℤ) → 2 ≤ length values → ((i : ℕ) → suc i < length values → step_at values i ≤ D) → IsLine D 65536 (curve values) (whole_positions (length values))
curve_line_by D [] a g = absurd (omega (arith, a))
curve_line_by D (v ∷ values) a g = record {
  first = record { place = pos 0; height = v };
  knots = curve_knots (pos 65536) values;
  places = curve_places 0 (v ∷ values);
  gentle = gentle_curve D (pos 0) (v ∷ values) g;
  same = curve_line v values;
}

pub curve_is_line : (values : List ℤ) → 2 ≤ length values → IsLine (step_of values) 65536 (curve values) (whole_positions (length values))
curve_is_line values a = curve_line_by (step_of values) values a (λ i l. step_above values (length values - 1) i (omega arith))

pub curve_line_knots : (v : ℤ) (values : List ℤ) (some : 2 ≤ length (v ∷ values)) → (curve_is_line (v ∷ values) some).first ∷ (curve_is_line (v ∷ values) some).knots ≡ curve_knots (pos 0) (v ∷ values)
unfolding curve_is_line curve_line_by
curve_line_knots v values some = refl

-- ---- curves over an axis: the steepest slope

steepest_same : (points values : List ℤ) (n : ℕ) → steepest_of (slope_at points values) n ≡ curve_steepest_of points values n
unfolding steepest_of curve_steepest_of
steepest_same points values zero = refl
steepest_same points values (suc n) = ap (λ s. steeper s (slope_at points values (suc n))) (steepest_same points values n)

gentle_pairs : (D G : ℕ) (points values : List ℤ) → ((i : ℕ) → suc i < length points → point_at points i <ℤ point_at points (suc i)) → ((i : ℕ) → suc i < length points → step_at values i * G ≤ D * gap_at points i) → AreGentle D G (pair_knots points values)
gentle_pairs D G [] values r g = tt
gentle_pairs D G (p ∷ points) [] r g = tt
gentle_pairs D G (p ∷ []) (v ∷ values) r g = tt
gentle_pairs D G (p ∷ q ∷ points) (v ∷ []) r g = tt
gentle_pairs D G (p ∷ q ∷ points) (v ∷ w ∷ values) r g = (
  record { rising = r 0 (omega arith); gentle = g 0 (omega arith) },
  gentle_pairs D G (q ∷ points) (w ∷ values) (λ i l. r (suc i) (omega arith)) (λ i l. g (suc i) (omega arith)),
)

pair_places : (points values : List ℤ) → length points ≡ length values → map (λ k. k.place) (pair_knots points values) ≡ points
pair_places [] values e = refl
pair_places (p ∷ points) [] e = absurd (omega (arith, e))
pair_places (p ∷ points) (v ∷ values) e = ap (λ ps. p ∷ ps) (pair_places points values (omega (arith, e)))

do_rise : (points : List ℤ) → ((i : ℕ) → suc i < length points → point_at points i <ℤ point_at points (suc i)) → DoRise points
do_rise [] r = tt
do_rise (p ∷ []) r = tt
do_rise (p ∷ q ∷ points) r = (r 0 (omega arith), do_rise (q ∷ points) (λ i l. r (suc i) (omega arith)))

pub gaps_some : (points : List ℤ) → AreAxis points → (i : ℕ) → suc i < length points → 1 ≤ gap_at points i
gaps_some points a i h = some_gap (point_at points i) (point_at points (suc i)) (a.rising i h)

pub some_run : (points values : List ℤ) → AreAxis points → length points ≡ length values → 1 ≤ (slope_of points values).run
some_run points values a e =
    let n = length values - 2 in
    subst (λ s. 1 ≤ s.run) (steepest_same points values n) (steepest_some (slope_at points values) n (λ i l. gaps_some points a i (omega (arith, a.some, e))))

slope_above : (points values : List ℤ) → AreAxis points → length points ≡ length values → (i : ℕ) → suc i < length points → step_at values i * (slope_of points values).run ≤ (slope_of points values).rise * gap_at points i
slope_above points values a e i h =
    let n = length values - 2 in
    subst (λ s. step_at values i * s.run ≤ s.rise * gap_at points i) (steepest_same points values n)
    (steepest (slope_at points values) n i (λ k l. gaps_some points a k (omega (arith, a.some, e))) (omega (arith, e, h))).steep

-- a curve over an axis is a line, no steeper than any slope that is at least as steep as each of its own
pub curve_over_line_by : (D G : ℕ) (points values : List ℤ) → AreAxis points → length points ≡ length values → ((i : ℕ) → suc i < length points → step_at values i * G ≤ D * gap_at points i) → IsLine D G (curve_over points values) points
curve_over_line_by D G [] values a e g = absurd (omega (arith, a.some))
curve_over_line_by D G (p ∷ points) [] a e g = absurd (omega (arith, e))
curve_over_line_by D G (p ∷ points) (v ∷ values) a e g = record {
  first = record { place = p; height = v };
  knots = pair_knots points values;
  places = pair_places (p ∷ points) (v ∷ values) e;
  gentle = gentle_pairs D G (p ∷ points) (v ∷ values) a.rising g;
  same = λ x. pair_line p v points values x (do_rise (p ∷ points) a.rising);
}

pub curve_over_is_line : (points values : List ℤ) → AreAxis points → length points ≡ length values → IsLine (slope_of points values).rise (slope_of points values).run (curve_over points values) points
curve_over_is_line points values a e = curve_over_line_by (slope_of points values).rise (slope_of points values).run points values a e (slope_above points values a e)

pub curve_over_line_knots : (p v : ℤ) (points values : List ℤ) (a : AreAxis (p ∷ points)) (e : length (p ∷ points) ≡ length (v ∷ values)) →
    (curve_over_is_line (p ∷ points) (v ∷ values) a e).first ∷ (curve_over_is_line (p ∷ points) (v ∷ values) a e).knots ≡ pair_knots (p ∷ points) (v ∷ values)
unfolding curve_over_is_line curve_over_line_by
curve_over_line_knots p v points values a e = refl
