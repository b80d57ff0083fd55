-- Where a look-up bends it has, rounded downward, the height of its knot there.
use Rattle.std.specs.Prelude.{◌≡◌, ℕ, zero, suc, ◌+◌, ◌*◌, ◌<◌, ◌≤◌, List, [], ◌∷◌, length, map, get_or, ℤ, pos, ◌+ℤ◌, ◌*ℤ◌}
use Rattle.std.proofs.Common.{◌^◌, lit<, refl, sym, ap, ◌∙◌, subst, arith}
use Rattle.std.specs.Int.{w64}
use Rattle.std.proofs.lemmas.Int.{ints}
use Rattle.std.proofs.lemmas.List.FromFn.{get_or-map-range_with_len, length-map-range_with_len}
use Rattle.fx_fraction.specs.Fraction.{Fraction, whole}
use Rattle.fx_fraction.proofs.Order.{Same_trans}
use Rattle.fx_core.specs.declared.quotient.Mode.TheVariants.{Floor}
use Rattle.fx_core.specs.Values.{rounded_fraction}
use Rattle.fx_core.specs.declared.word_type.Ty.{Ty}
use Rattle.fx_core.proofs.RoundingLaws.{rounded_by_one}
use Rattle.fx_core.proofs.WordSteps.{product_step, word_of}
use Rattle.part_rules.proofs.RangesGrow.{Each}
use Rattle.ifx_search.specs.Axes.{IsAxis, point_at}
use Rattle.ifx_search.specs.Positions.{position}
use Rattle.ifx_curves.specs.Curves.{curve}
use Rattle.ifx_curves.specs.Tables.{value_at}
use Rattle.ifx_rules.specs.LookUpRules.{curve_over, rounded_down, whole_positions}
use Rattle.ifx_rules.specs.KeptRules.{AreAxis}
use Rattle.ifx_rules.proofs.Lines.{Knot, line}
use Rattle.ifx_rules.proofs.LineRanges.{IsAtKnot, IsLine, at_knots, each_turned, floor_same}
use Rattle.ifx_rules.proofs.LookUpLines.{position_knots, curve_knots, pair_knots}
use Rattle.ifx_rules.proofs.LookUps.{position_is_line, position_line_knots, curve_is_line, curve_line_knots, curve_over_is_line, curve_over_line_knots}

-- ---- at the knots of a line

floor_whole : (z : ℤ) → rounded_fraction Floor (whole z) ≡ z
unfolding whole
floor_whole z = rounded_by_one Floor z

-- a function has a knot's height at its place, rounded downward
HasHeight : (ℤ → ℤ) → Knot → Type 0
HasHeight value k = value k.place ≡ k.height

at_knot : {D G : ℕ} (value : Fraction → Fraction) (points : List ℤ) (l : IsLine D G value points) (k : Knot) → IsAtKnot l.first l.knots k → HasHeight (rounded_down value) k
unfolding HasHeight
at_knot value points l k at =
    floor_same (value (whole k.place)) (whole k.height) (Same_trans (value (whole k.place)) (line (l.first ∷ l.knots) (whole k.place)) (whole k.height) (l.same (whole k.place)) at.height)
    ∙ floor_whole k.height

height_of : (value : ℤ → ℤ) (knots : List Knot) (i : ℕ) → i < length (map (λ k. k.place) knots) → Each (HasHeight value) knots → value (point_at (map (λ k. k.place) knots) i) ≡ get_or (map (λ k. k.height) knots) i (pos 0)
unfolding HasHeight
height_of value [] i h e = absurd (omega (arith, h))
height_of value (k ∷ knots) zero h e = e.0
height_of value (k ∷ knots) (suc i) h e = height_of value knots i (omega (arith, h)) e.1

-- at point i a function has the height of knot i
line_height : {D G : ℕ} (value : Fraction → Fraction) (points : List ℤ) (l : IsLine D G value points) (knots : List Knot) (i : ℕ) → l.first ∷ l.knots ≡ knots → i < length points → rounded_down value (point_at points i) ≡ get_or (map (λ k. k.height) knots) i (pos 0)
line_height {D} {G} value points l knots i e h =
    let all = l.first ∷ l.knots in
    let each = each_turned (IsAtKnot l.first l.knots) (HasHeight (rounded_down value)) (at_knot value points l) all (at_knots D G l.first l.knots l.gentle) in
    let inside = subst (λ ps. i < length ps) (sym l.places) h in
    subst (λ ps. rounded_down value (point_at ps i) ≡ get_or (map (λ k. k.height) all) i (pos 0)) l.places (height_of (rounded_down value) all i inside each)
    ∙ ap (λ ks. get_or (map (λ k. k.height) ks) i (pos 0)) e

-- ---- the heights of the look-ups

pub are_axis : (ty : Ty) (points : List ℤ) → IsAxis ty points → AreAxis points
are_axis ty points axis = record { some = axis.some; rising = axis.rising }

position_height : (h : ℕ) (points : List ℤ) (i : ℕ) → i < length points → get_or (map (λ k. k.height) (position_knots (pos h) points)) i (pos 0) ≡ pos (h + 65536 * i)
position_height h [] i l = absurd (omega (arith, l))
position_height h (p ∷ points) zero l = ap pos (omega arith)
position_height h (p ∷ points) (suc i) l = position_height (h + 65536) points i (omega (arith, l)) ∙ ap pos (omega arith)

-- a position is 65536 times the point's number
pub position_there : (points : List ℤ) (i : ℕ) → AreAxis points → i < length points → rounded_down (position points) (point_at points i) ≡ pos (65536 * i)
position_there [] i a h = absurd (omega (arith, h))
position_there (p ∷ points) i a h = line_height (position (p ∷ points)) (p ∷ points) (position_is_line (p ∷ points) a) (position_knots (pos 0) (p ∷ points)) i (position_line_knots p points a) h ∙ position_height 0 (p ∷ points) i h ∙ ap pos (omega arith)

curve_heights : (z : ℤ) (values : List ℤ) → map (λ k. k.height) (curve_knots z values) ≡ values
curve_heights z [] = refl
curve_heights z (v ∷ values) = ap (λ vs. v ∷ vs) (curve_heights (z +ℤ pos 65536) values)

pub length-whole_positions : (n : ℕ) → length (whole_positions n) ≡ n
length-whole_positions n = length-map-range_with_len (λ i. pos (65536 * i)) 0 n

pub whole_position : (n i : ℕ) → i < n → point_at (whole_positions n) i ≡ pos (65536 * i)
whole_position n i h = get_or-map-range_with_len (λ i. pos (65536 * i)) 0 n i i (pos 0) h (omega arith)

-- a curve has its value i
pub curve_there : (values : List ℤ) (i : ℕ) → 2 ≤ length values → i < length values → rounded_down (curve values) (pos (65536 * i)) ≡ value_at values i
curve_there [] i some h = absurd (omega (arith, h))
curve_there (v ∷ values) i some h =
    let n = length (v ∷ values) in
    ap (rounded_down (curve (v ∷ values))) (sym (whole_position n i h))
    ∙ line_height (curve (v ∷ values)) (whole_positions n) (curve_is_line (v ∷ values) some) (curve_knots (pos 0) (v ∷ values)) i (curve_line_knots v values some) (omega (arith, h, length-whole_positions n))
    ∙ ap (λ vs. get_or vs i (pos 0)) (curve_heights (pos 0) (v ∷ values))

pair_heights : (points values : List ℤ) → length points ≡ length values → map (λ k. k.height) (pair_knots points values) ≡ values
pair_heights [] [] e = refl
pair_heights [] (v ∷ values) e = absurd (omega (arith, e))
pair_heights (p ∷ points) [] e = absurd (omega (arith, e))
pair_heights (p ∷ points) (v ∷ values) e = ap (λ vs. v ∷ vs) (pair_heights points values (omega (arith, e)))

-- and so has a curve over an axis at point i
pub curve_over_there : (points values : List ℤ) (i : ℕ) → AreAxis points → length points ≡ length values → i < length points → rounded_down (curve_over points values) (point_at points i) ≡ value_at values i
curve_over_there [] values i a e h = absurd (omega (arith, h))
curve_over_there (p ∷ points) [] i a e h = absurd (omega (arith, e))
curve_over_there (p ∷ points) (v ∷ values) i a e h =
    line_height (curve_over (p ∷ points) (v ∷ values)) (p ∷ points) (curve_over_is_line (p ∷ points) (v ∷ values) a e) (pair_knots (p ∷ points) (v ∷ values)) i (curve_over_line_knots p v points values a e) h
    ∙ ap (λ vs. get_or vs i (pos 0)) (pair_heights (p ∷ points) (v ∷ values) e)

-- ---- 65536 times a point's number, as a word

pub whole_word : (i : ℕ) (n : ℤ) → n ≡ pos i → i < 2 ^ 32 → word_of w64 (pos 65536 *ℤ word_of w64 n) ≡ pos (65536 * i)
whole_word i n e h = rw e (product_step w64 (pos 65536) (pos i) 65537 (2 ^ 32) (lit< tt) (omega (arith, ints, h)) (lit< tt) (lit< tt)).value
