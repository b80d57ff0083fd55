-- Positions, curves and curves over positions are broken lines.
use Rattle.std.specs.Prelude.{◌≡◌, ℕ, ◌*◌, ◌≤◌, Bool, true, false, cond, List, [], ◌∷◌, ℤ, pos, ◌+ℤ◌, ◌-ℤ◌, ◌*ℤ◌, ◌≤ℤ◌, ◌<ℤ◌, unsigned_abs}
use Rattle.std.proofs.Common.{refl, sym, ap, ap₂, ◌∙◌, subst, arith, zero-mul}
use native.Mathlib.Nat.{mul-pos}
use Rattle.std.proofs.lemmas.Int.{ints}
use Rattle.fx_fraction.specs.Fraction.{Fraction, denom, whole, plus, minus, times, divided, AtMost, Same, Is}
use Rattle.fx_fraction.proofs.Polynomials.{differences, as_difference, same}
use Rattle.fx_fraction.proofs.WholeNumbers.{int_le-true, int_le-false, int_le_of-lt, int_sub-mul, int_add-mul}
use lib.Signed.{clash_ℤ}
use Rattle.fx_fraction.proofs.Denominators.{is_self, is_whole, is_plus, is_minus, is_times, is_divided, is_renamed, is_same, Same-in, Same-in_cross, AtMost-in, AtMost-out}
use Rattle.fx_fraction.proofs.Order.{Same_refl, Same_trans, AtMost_refl}
use Rattle.ifx_search.specs.Positions.{is_at_most, way_in, position}
use Rattle.ifx_curves.specs.Curves.{on_way, curve, curve_through}
use Rattle.ifx_curves.proofs.CurvePoints.{is_on_way_of_values}
use Rattle.ifx_rules.proofs.Lines.{Knot, between, line}
use Rattle.ifx_rules.proofs.Slopes.{Spans, on_between, int_le_test, at_itself}

same_of : (f g : Fraction) → f ≡ g → Same f g
same_of f g e = subst (λ h. Same f h) e (Same_refl f)

-- ---- positions

-- the knots of a position: 65536 higher at each point
abbrev pub position_knots : ℤ → List ℤ → List Knot
position_knots h [] = []
position_knots h (p ∷ points) = record { place = p; height = h } ∷ position_knots (h +ℤ pos 65536) points

pub next_up : (h : ℤ) → h +ℤ pos 65536 -ℤ h ≡ pos 65536
next_up h = omega (arith, ints)

nothing_more : (h : ℤ) → Same (plus (whole h) (whole (pos 0))) (whole h)
nothing_more h = Same-in (is_plus (is_whole h 1 (omega arith)) (is_whole (pos 0) 1 (omega arith))) (is_whole h 1 (omega arith)) (omega (arith, ints))

gathered : (h r : ℤ) (d : ℕ) → h *ℤ pos d +ℤ (pos 65536 *ℤ pos d +ℤ r) ≡ (h +ℤ pos 65536) *ℤ pos d +ℤ r
gathered h r d = omega (arith, ints, int_add-mul h (pos 65536) (pos d))

one_more : (h : ℤ) (f : Fraction) → Same (plus (whole h) (plus (whole (pos 65536)) f)) (plus (whole (h +ℤ pos 65536)) f)
one_more h f =
    let i = is_self f in
    let d = denom f in
    Same-in (is_plus (is_whole h d i.positive) (is_plus (is_whole (pos 65536) d i.positive) i)) (is_plus (is_whole (h +ℤ pos 65536) d i.positive) i) (gathered h f.numer d)

way_between : (h p q : ℤ) (x : Fraction) → plus (whole h) (way_in p q x) ≡ between (record { place = p; height = h }) (record { place = q; height = h +ℤ pos 65536 }) x
unfolding way_in between
way_between h p q x = ap (λ r. plus (whole h) (divided (times (whole r) (minus x (whole p))) (minus (whole q) (whole p)))) (sym (next_up h))

position_step : (h p q : ℤ) (x f g : Fraction) (a b : Bool) → Same (plus (whole (h +ℤ pos 65536)) f) g →
    Same (plus (whole h) (cond a (whole (pos 0)) (cond b (way_in p q x) (plus (whole (pos 65536)) f)))) (cond a (whole h) (cond b (between (record { place = p; height = h }) (record { place = q; height = h +ℤ pos 65536 }) x) g))
position_step h p q x f g true b n = nothing_more h
position_step h p q x f g false true n = same_of _ _ (way_between h p q x)
position_step h p q x f g false false n = Same_trans _ (plus (whole (h +ℤ pos 65536)) f) g (one_more h f) n

position_line_from : (h p : ℤ) (points : List ℤ) (x : Fraction) → Same (plus (whole h) (position (p ∷ points) x)) (line (position_knots h (p ∷ points)) x)
unfolding position line
position_line_from h p [] x = nothing_more h
position_line_from h p (q ∷ points) x = position_step h p q x (position (q ∷ points) x) (line (position_knots (h +ℤ pos 65536) (q ∷ points)) x) (is_at_most x p) (is_at_most x q) (position_line_from (h +ℤ pos 65536) q points x)

none_more : (f : Fraction) → Same f (plus (whole (pos 0)) f)
none_more f =
    let i = is_self f in
    Same-in i (is_plus (is_whole (pos 0) (denom f) i.positive) i) (omega (arith, ints, zero-mul (denom f)))

-- a position is the line through (point, 65536 times its number)
pub position_line : (p : ℤ) (points : List ℤ) (x : Fraction) → Same (position (p ∷ points) x) (line (position_knots (pos 0) (p ∷ points)) x)
position_line p points x = Same_trans _ (plus (whole (pos 0)) (position (p ∷ points) x)) _ (none_more (position (p ∷ points) x)) (position_line_from (pos 0) p points x)

-- ---- curves

-- the knots of a curve: a value each 65536
abbrev pub curve_knots : ℤ → List ℤ → List Knot
curve_knots z [] = []
curve_knots z (v ∷ values) = record { place = z; height = v } ∷ curve_knots (z +ℤ pos 65536) values

-- s is t less z
record IsLess (s t : Fraction) (z : ℤ) : Type 0 where
  less : Same s (minus t (whole z))

over_place : {s t : Fraction} {z : ℤ} → IsLess s t z → Is s (denom t) (t.numer -ℤ z *ℤ pos (denom t))
over_place {s} {t} {z} l = is_same (sym l.less) (is_minus (is_self t) (is_whole z (denom t) (omega arith)))

moved_le : (t z c : ℤ) (d : ℕ) → (t -ℤ z *ℤ pos d) ≤ℤ (c *ℤ pos d) → t ≤ℤ ((z +ℤ c) *ℤ pos d)
moved_le t z c d h = rw (int_add-mul z c (pos d)) (omega (arith, ints, h))

moved_ge : (t z c : ℤ) (d : ℕ) → t ≤ℤ ((z +ℤ c) *ℤ pos d) → (t -ℤ z *ℤ pos d) ≤ℤ (c *ℤ pos d)
moved_ge t z c d h = let k = rw (int_add-mul z c (pos d)) at h in omega (arith, ints, k)

test_moved : (s t : Fraction) (z c : ℤ) (a b : Bool) → IsLess s t z → is_at_most s c ≡ a → is_at_most t (z +ℤ c) ≡ b → a ≡ b
test_moved s t z c true true l p q = refl
test_moved s t z c false false l p q = refl
test_moved s t z c true false l p q = clash_ℤ (int_le-false _ _ q) (moved_le t.numer z c (denom t) (AtMost-out (over_place l) (is_whole c (denom t) (omega arith)) (AtMost-in (is_self s) (is_whole c (denom s) (omega arith)) (int_le-true _ _ p))))
test_moved s t z c false true l p q = clash_ℤ (int_le-false _ _ p) (AtMost-out (is_self s) (is_whole c (denom s) (omega arith)) (AtMost-in (over_place l) (is_whole c (denom t) (omega arith)) (moved_ge t.numer z c (denom t) (int_le-true _ _ q))))

spans_next : (z v w : ℤ) → Spans (record { place = z; height = v }) (record { place = z +ℤ pos 65536; height = w }) 65536
spans_next z v w = record { some = omega arith; long = next_up z }

way_on_segment : (z v w : ℤ) (s t : Fraction) → IsLess s t z → Same (on_way (whole v) (whole w) s) (between (record { place = z; height = v }) (record { place = z +ℤ pos 65536; height = w }) t)
way_on_segment z v w s t l = Same-in (is_on_way_of_values v w (over_place l)) (on_between (spans_next z v w) (is_self t)).is refl

less_further : (t z : ℤ) (d : ℕ) → t -ℤ z *ℤ pos d -ℤ pos 65536 *ℤ pos d ≡ t -ℤ (z +ℤ pos 65536) *ℤ pos d
less_further t z d = rw (as_difference t, as_difference z) (simp differences (same _ _ _ _ (omega arith)))

further : (s t : Fraction) (z : ℤ) → IsLess s t z → IsLess (minus s (whole (pos 65536))) t (z +ℤ pos 65536)
further s t z l =
    let i = is_self t in
    record { less = Same-in (is_minus (over_place l) (is_whole (pos 65536) (denom t) i.positive)) (is_minus i (is_whole (z +ℤ pos 65536) (denom t) i.positive)) (less_further t.numer z (denom t)) }

curve_step : (z v w : ℤ) (s t f g : Fraction) (a b : Bool) → IsLess s t z → Same f g →
    Same (cond a (whole v) (cond b (on_way (whole v) (whole w) s) f)) (cond a (whole v) (cond b (between (record { place = z; height = v }) (record { place = z +ℤ pos 65536; height = w }) t) g))
curve_step z v w s t f g true b l n = Same_refl (whole v)
curve_step z v w s t f g false true l n = way_on_segment z v w s t l
curve_step z v w s t f g false false l n = n

test_here : (s t : Fraction) (z : ℤ) → IsLess s t z → is_at_most s (pos 0) ≡ is_at_most t z
test_here s t z l = test_moved s t z (pos 0) _ _ l refl refl ∙ ap (is_at_most t) (omega (arith, ints))

curve_line_from : (z v : ℤ) (values : List ℤ) (s t : Fraction) → IsLess s t z → Same (curve (v ∷ values) s) (line (curve_knots z (v ∷ values)) t)
unfolding curve curve_through line
curve_line_from z v [] s t l = Same_refl (whole v)
curve_line_from z v (w ∷ values) s t l =
    subst (Same (curve (v ∷ w ∷ values) s))
    (ap₂ (λ a b. cond a (whole v) (cond b (between (record { place = z; height = v }) (record { place = z +ℤ pos 65536; height = w }) t) (line (curve_knots (z +ℤ pos 65536) (w ∷ values)) t)))
    (test_here s t z l) (test_moved s t z (pos 65536) _ _ l refl refl))
    (curve_step z v w s t (curve (w ∷ values) (minus s (whole (pos 65536)))) (line (curve_knots (z +ℤ pos 65536) (w ∷ values)) t) (is_at_most s (pos 0)) (is_at_most s (pos 65536)) l (curve_line_from (z +ℤ pos 65536) w values (minus s (whole (pos 65536))) t (further s t z l)))

less_nothing : (t : Fraction) → IsLess t t (pos 0)
less_nothing t =
    let i = is_self t in
    record { less = Same-in i (is_minus i (is_whole (pos 0) (denom t) i.positive)) (omega (arith, ints, zero-mul (denom t))) }

-- a curve is the line through (65536 times its number, value)
pub curve_line : (v : ℤ) (values : List ℤ) (t : Fraction) → Same (curve (v ∷ values) t) (line (curve_knots (pos 0) (v ∷ values)) t)
curve_line v values t = curve_line_from (pos 0) v values t t (less_nothing t)

-- at one position under two names a curve has one value
curve_same : (v : ℤ) (values : List ℤ) (s t : Fraction) → Same s t → Same (curve (v ∷ values) s) (curve (v ∷ values) t)
curve_same v values s t e =
    Same_trans (curve (v ∷ values) s) (line (curve_knots (pos 0) (v ∷ values)) t) (curve (v ∷ values) t)
    (curve_line_from (pos 0) v values s t (record { less = Same_trans s t (minus t (whole (pos 0))) e (less_nothing t).less }))
    (sym (curve_line v values t))

-- ---- a curve over positions

-- the knots of a curve over an axis: a value at each point
abbrev pub pair_knots : List ℤ → List ℤ → List Knot
pair_knots [] values = []
pair_knots (p ∷ points) [] = []
pair_knots (p ∷ points) (v ∷ values) = record { place = p; height = v } ∷ pair_knots points values

-- points rise
abbrev pub DoRise : List ℤ → Type 0
DoRise [] = Unit {0}
DoRise (p ∷ []) = Unit {0}
DoRise (p ∷ q ∷ points) = (p <ℤ q) × DoRise (q ∷ points)

rising_span : (p q v w : ℤ) → p <ℤ q → Spans (record { place = p; height = v }) (record { place = q; height = w }) (unsigned_abs (q -ℤ p))
rising_span p q v w h = record { some = omega (arith, ints, h); long = omega (arith, ints, h) }

-- a test by numerators
whole_out : (f : Fraction) (z : ℤ) → AtMost f (whole z) → f.numer ≤ℤ (z *ℤ pos (denom f))
whole_out f z h = AtMost-out (is_self f) (is_whole z (denom f) (omega arith)) h

at_most : (f : Fraction) (z : ℤ) {d : ℕ} {a : ℤ} → Is f d a → a ≤ℤ (z *ℤ pos d) → is_at_most f z ≡ true
at_most f z {d} i h = int_le_test _ _ _ refl (whole_out f z (AtMost-in i (is_whole z d i.positive) h))

not_at_most_by : (f : Fraction) (z : ℤ) {d : ℕ} {a : ℤ} (t : Bool) → is_at_most f z ≡ t → Is f d a → (z *ℤ pos d) <ℤ a → is_at_most f z ≡ false
not_at_most_by f z false e i h = e
not_at_most_by f z {d} true e i h = clash_ℤ h (AtMost-out i (is_whole z d i.positive) (AtMost-in (is_self f) (is_whole z (denom f) (omega arith)) (int_le-true _ _ e)))

not_at_most : (f : Fraction) (z : ℤ) {d : ℕ} {a : ℤ} → Is f d a → (z *ℤ pos d) <ℤ a → is_at_most f z ≡ false
not_at_most f z i h = not_at_most_by f z _ refl i h

above_start : (p a : ℤ) (d n : ℕ) → (p *ℤ pos d) <ℤ a → (pos 0 *ℤ pos n) <ℤ (pos 65536 *ℤ (a -ℤ p *ℤ pos d))
above_start p a d n h = omega (arith, ints, zero-mul n, h)

below_end : (p q a : ℤ) (d g : ℕ) → q -ℤ p ≡ pos g → a ≤ℤ (q *ℤ pos d) → (pos 65536 *ℤ (a -ℤ p *ℤ pos d)) ≤ℤ (pos 65536 *ℤ pos (g * d))
below_end p q a d g e h =
    let k = sym (int_sub-mul q p (pos d)) ∙ ap (λ t. t *ℤ pos d) e in
    omega (arith, ints, h, k)

-- the way into a segment, over a denominator
is_way_in : (p q : ℤ) {x : Fraction} {d : ℕ} {a : ℤ} {g : ℕ} → 1 ≤ g → q -ℤ p ≡ pos g → Is x d a → Is (way_in p q x) (g * d) (pos 65536 *ℤ (a -ℤ p *ℤ pos d))
unfolding way_in
is_way_in p q {x} {d} {a} {g} some long i =
    let rise = is_renamed (omega arith) (is_times (is_whole (pos 65536) 1 (omega arith)) (is_minus i (is_whole p d i.positive))) in
    let run = subst (λ n. Is (minus (whole q) (whole p)) d n) (sym (int_sub-mul q p (pos d)) ∙ ap (λ t. t *ℤ pos d) long) (is_minus (is_whole q d i.positive) (is_whole p d i.positive)) in
    is_divided (mul-pos some i.positive) rise run

way_positive : (p q : ℤ) (x : Fraction) → p <ℤ q → is_at_most x p ≡ false → is_at_most (way_in p q x) (pos 0) ≡ false
way_positive p q x h k = not_at_most (way_in p q x) (pos 0) (is_way_in p q (rising_span p q p q h).some (rising_span p q p q h).long (is_self x)) (above_start p x.numer (denom x) (unsigned_abs (q -ℤ p) * denom x) (int_le-false _ _ k))

way_whole : (p q : ℤ) (x : Fraction) → p <ℤ q → is_at_most x q ≡ true → is_at_most (way_in p q x) (pos 65536) ≡ true
way_whole p q x h k = at_most (way_in p q x) (pos 65536) (is_way_in p q (rising_span p q p q h).some (rising_span p q p q h).long (is_self x)) (below_end p q x.numer (denom x) _ (rising_span p q p q h).long (int_le-true _ _ k))

on_way_step : (v r a : ℤ) (n : ℕ) → (v *ℤ pos (65536 * n) +ℤ r *ℤ (pos 65536 *ℤ a)) *ℤ pos n ≡ (v *ℤ pos n +ℤ r *ℤ a) *ℤ pos (65536 * n)
on_way_step v r a n = rw (as_difference v, as_difference r, as_difference a) (simp differences (same _ _ _ _ (omega arith)))

-- in a segment of positive length the curve at the way in is the line of the segment
on_way_between : (p q v w : ℤ) (x : Fraction) → p <ℤ q → Same (on_way (whole v) (whole w) (way_in p q x)) (between (record { place = p; height = v }) (record { place = q; height = w }) x)
on_way_between p q v w x h =
    let t = rising_span p q v w h in
    let i = is_self x in
    let g = unsigned_abs (q -ℤ p) in
    Same-in_cross (is_on_way_of_values v w (is_way_in p q t.some t.long i)) (on_between t i).is (on_way_step v (w -ℤ v) (x.numer -ℤ p *ℤ pos (denom x)) (g * denom x))

-- ---- past a segment

at_most_whole : (f : Fraction) (z : ℤ) → is_at_most f z ≡ true → AtMost f (whole z)
at_most_whole f z h = AtMost-in (is_self f) (is_whole z (denom f) (omega arith)) (int_le-true _ _ h)

end_step : (a : ℤ) (d : ℕ) → (pos 65536 *ℤ pos d +ℤ a) ≤ℤ (pos 65536 *ℤ pos d) → a ≤ℤ (pos 0 *ℤ pos d)
end_step a d h = omega (arith, ints, h, zero-mul d)

-- a position that isn't negative, one segment further on
shifted_end : (s : Fraction) → AtMost (whole (pos 0)) s → is_at_most (plus (whole (pos 65536)) s) (pos 65536) ≡ true → is_at_most s (pos 0) ≡ true
shifted_end s h k =
    let i = is_self s in
    at_most s (pos 0) i (end_step s.numer (denom s) (AtMost-out (is_plus (is_whole (pos 65536) (denom s) i.positive) i) (is_whole (pos 65536) (denom s) i.positive) (at_most_whole (plus (whole (pos 65536)) s) (pos 65536) k)))

beyond_step : (a : ℤ) (d : ℕ) → 1 ≤ d → (pos 0 *ℤ pos d) ≤ℤ a → (pos 0 *ℤ pos d) <ℤ (pos 65536 *ℤ pos d +ℤ a)
beyond_step a d p h = omega (arith, ints, zero-mul d, p, h)

more_step : (a : ℤ) (d : ℕ) → (pos 0 *ℤ pos d) ≤ℤ a → (pos 0 *ℤ pos d) ≤ℤ (pos 65536 *ℤ pos d +ℤ a)
more_step a d h = omega (arith, ints, zero-mul d, h)

all_way_of : (v w a : ℤ) (d : ℕ) → a ≡ pos 0 → v *ℤ pos (65536 * d) +ℤ (w -ℤ v) *ℤ (pos 65536 *ℤ pos d +ℤ a) ≡ w *ℤ pos (65536 * d)
all_way_of v w a d e = rw e (rw (as_difference v, as_difference w) (simp differences (same _ _ _ _ (omega arith))))

all_way : (v w a : ℤ) (d : ℕ) → (pos 0 *ℤ pos d) ≤ℤ a → a ≤ℤ (pos 0 *ℤ pos d) → v *ℤ pos (65536 * d) +ℤ (w -ℤ v) *ℤ (pos 65536 *ℤ pos d +ℤ a) ≡ w *ℤ pos (65536 * d)
all_way v w a d p q = all_way_of v w a d (omega (arith, ints, zero-mul d, p, q))

beyond_nothing : (s : Fraction) → AtMost (whole (pos 0)) s → is_at_most (plus (whole (pos 65536)) s) (pos 0) ≡ false
beyond_nothing s h =
    let i = is_self s in
    not_at_most (plus (whole (pos 65536)) s) (pos 0) (is_plus (is_whole (pos 65536) (denom s) i.positive) i)
    (beyond_step s.numer (denom s) i.positive (AtMost-out (is_whole (pos 0) (denom s) i.positive) i h))

at_the_end : (v w : ℤ) (s : Fraction) → AtMost (whole (pos 0)) s → is_at_most s (pos 0) ≡ true → Same (on_way (whole v) (whole w) (plus (whole (pos 65536)) s)) (whole w)
at_the_end v w s h k =
    let i = is_self s in
    let d = denom s in
    Same-in (is_on_way_of_values v w (is_plus (is_whole (pos 65536) d i.positive) i)) (is_whole w (65536 * d) (mul-pos (omega arith) i.positive))
    (all_way v w s.numer d (AtMost-out (is_whole (pos 0) d i.positive) i h) (int_le-true _ _ k))

curve_start : (w : ℤ) (values : List ℤ) (s : Fraction) → is_at_most s (pos 0) ≡ true → curve (w ∷ values) s ≡ whole w
unfolding curve curve_through
curve_start w [] s h = refl
curve_start w (u ∷ values) s h = ap (λ t. cond t (whole w) (cond (is_at_most s (pos 65536)) (on_way (whole w) (whole u) s) (curve (u ∷ values) (minus s (whole (pos 65536)))))) h

back_again : (s : Fraction) → Same (minus (plus (whole (pos 65536)) s) (whole (pos 65536))) s
back_again s =
    let i = is_self s in
    let m = is_whole (pos 65536) (denom s) i.positive in
    Same-in (is_minus (is_plus m i) m) i (omega (arith, ints))

past_one : (v w : ℤ) (values : List ℤ) (s : Fraction) (b : Bool) → AtMost (whole (pos 0)) s → is_at_most (plus (whole (pos 65536)) s) (pos 65536) ≡ b →
    Same (cond b (on_way (whole v) (whole w) (plus (whole (pos 65536)) s)) (curve (w ∷ values) (minus (plus (whole (pos 65536)) s) (whole (pos 65536))))) (curve (w ∷ values) s)
past_one v w values s true h k =
    let none = shifted_end s h k in
    subst (Same (on_way (whole v) (whole w) (plus (whole (pos 65536)) s))) (sym (curve_start w values s none)) (at_the_end v w s h none)
past_one v w values s false h k = curve_same w values (minus (plus (whole (pos 65536)) s) (whole (pos 65536))) s (back_again s)

shifted : (v w : ℤ) (values : List ℤ) (s : Fraction) → AtMost (whole (pos 0)) s → Same (curve (v ∷ w ∷ values) (plus (whole (pos 65536)) s)) (curve (w ∷ values) s)
unfolding curve curve_through
shifted v w values s h =
    let t = plus (whole (pos 65536)) s in
    subst (λ a. Same (cond a (whole v) (cond (is_at_most t (pos 65536)) (on_way (whole v) (whole w) t) (curve (w ∷ values) (minus t (whole (pos 65536)))))) (curve (w ∷ values) s))
    (sym (beyond_nothing s h)) (past_one v w values s _ h refl)

-- ---- no position is negative

nothing_least : AtMost (whole (pos 0)) (whole (pos 0))
nothing_least = AtMost_refl (whole (pos 0))

way_least : (p q : ℤ) (x : Fraction) → p <ℤ q → is_at_most x p ≡ false → AtMost (whole (pos 0)) (way_in p q x)
way_least p q x h k =
    let t = rising_span p q p q h in
    let i = is_self x in
    let g = unsigned_abs (q -ℤ p) in
    AtMost-in (is_whole (pos 0) (g * denom x) (mul-pos t.some i.positive)) (is_way_in p q t.some t.long i) (int_le_of-lt _ _ (above_start p x.numer (denom x) (g * denom x) (int_le-false _ _ k)))

more_least : (f : Fraction) → AtMost (whole (pos 0)) f → AtMost (whole (pos 0)) (plus (whole (pos 65536)) f)
more_least f h =
    let i = is_self f in
    AtMost-in (is_whole (pos 0) (denom f) i.positive) (is_plus (is_whole (pos 65536) (denom f) i.positive) i) (more_step f.numer (denom f) (AtMost-out (is_whole (pos 0) (denom f) i.positive) i h))

least_step : (p q : ℤ) (x f : Fraction) (a b : Bool) → p <ℤ q → is_at_most x p ≡ a → AtMost (whole (pos 0)) f → AtMost (whole (pos 0)) (cond a (whole (pos 0)) (cond b (way_in p q x) (plus (whole (pos 65536)) f)))
least_step p q x f true b h k n = nothing_least
least_step p q x f false true h k n = way_least p q x h k
least_step p q x f false false h k n = more_least f n

pub position_least : (points : List ℤ) (x : Fraction) → DoRise points → AtMost (whole (pos 0)) (position points x)
unfolding position
position_least [] x r = nothing_least
position_least (p ∷ []) x r = nothing_least
position_least (p ∷ q ∷ points) x r = least_step p q x (position (q ∷ points) x) _ _ r.0 refl (position_least (q ∷ points) x r.1)

-- ---- a curve over positions is one line

pair_step : (p q v w : ℤ) (values : List ℤ) (x s g : Fraction) (a b : Bool) → p <ℤ q → is_at_most x p ≡ a → is_at_most x q ≡ b → AtMost (whole (pos 0)) s → Same (curve (w ∷ values) s) g →
    Same (curve (v ∷ w ∷ values) (cond a (whole (pos 0)) (cond b (way_in p q x) (plus (whole (pos 65536)) s)))) (cond a (whole v) (cond b (between (record { place = p; height = v }) (record { place = q; height = w }) x) g))
unfolding curve curve_through
pair_step p q v w values x s g true b h k l n e = same_of (curve (v ∷ w ∷ values) (whole (pos 0))) (whole v) (curve_start v (w ∷ values) (whole (pos 0)) (at_itself (pos 0)))
pair_step p q v w values x s g false true h k l n e =
    let t = way_in p q x in
    subst (λ c. Same (cond c (whole v) (cond (is_at_most t (pos 65536)) (on_way (whole v) (whole w) t) (curve (w ∷ values) (minus t (whole (pos 65536)))))) (between (record { place = p; height = v }) (record { place = q; height = w }) x))
    (sym (way_positive p q x h k))
    (subst (λ c. Same (cond c (on_way (whole v) (whole w) t) (curve (w ∷ values) (minus t (whole (pos 65536))))) (between (record { place = p; height = v }) (record { place = q; height = w }) x)) (sym (way_whole p q x h l)) (on_way_between p q v w x h))
pair_step p q v w values x s g false false h k l n e = Same_trans (curve (v ∷ w ∷ values) (plus (whole (pos 65536)) s)) (curve (w ∷ values) s) g (shifted v w values s n) e

pub pair_line : (p v : ℤ) (points values : List ℤ) (x : Fraction) → DoRise (p ∷ points) → Same (curve (v ∷ values) (position (p ∷ points) x)) (line (pair_knots (p ∷ points) (v ∷ values)) x)
unfolding curve curve_through position line
pair_line p v [] [] x r = Same_refl (whole v)
pair_line p v [] (w ∷ values) x r = same_of (curve (v ∷ w ∷ values) (whole (pos 0))) (whole v) (curve_start v (w ∷ values) (whole (pos 0)) (at_itself (pos 0)))
pair_line p v (q ∷ points) [] x r = Same_refl (whole v)
pair_line p v (q ∷ points) (w ∷ values) x r =
    pair_step p q v w values x (position (q ∷ points) x) (line (pair_knots (q ∷ points) (w ∷ values)) x) _ _ r.0 refl refl (position_least (q ∷ points) x r.1) (pair_line q w points values x r.1)
