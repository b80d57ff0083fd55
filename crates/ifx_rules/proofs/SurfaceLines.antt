-- With one of its two positions held fast a map is, times a whole number, a curve through whole numbers.
use Rattle.std.specs.Prelude.{◌≡◌, ℕ, suc, ◌+◌, ◌-◌, ◌*◌, ◌<◌, ◌≤◌, List, length, map, ℤ, pos, ◌+ℤ◌, ◌-ℤ◌, ◌*ℤ◌, unsigned_abs}
use Rattle.std.specs.List.{range_with_len}
use Rattle.std.proofs.Common.{refl, sym, ap, ap₂, ◌∙◌, subst, arith, mul-le-mul, le_refl}
use Rattle.std.proofs.Math.ListN.{get_or-map}
use Rattle.std.proofs.lemmas.List.{length-map}
use Rattle.std.proofs.lemmas.Int.{ints}
use Rattle.std.proofs.lemmas.List.FromFn.{get_or-map-range_with_len, length-map-range_with_len}
use Rattle.fx_fraction.specs.Fraction.{Fraction, whole, divided, Is, Same}
use Rattle.fx_fraction.proofs.Polynomials.{differences, as_difference, same}
use native.Mathlib.Nat.{mul-pos}
use Rattle.fx_fraction.proofs.WholeNumbers.{unsigned_abs-add_le, unsigned_abs-mul_pos}
use Rattle.fx_fraction.proofs.Denominators.{is_whole, is_divided, is_renamed, Same-in}
use Rattle.ifx_curves.specs.Curves.{curve}
use Rattle.ifx_curves.specs.Slopes.{step_at}
use Rattle.ifx_curves.specs.Tables.{value_at}
use Rattle.ifx_curves.proofs.CurvePoints.{height_at}
use Rattle.ifx_maps.specs.Maps.{MapData, map_at}
use Rattle.ifx_maps.specs.Surfaces.{column_of, surface}
use Rattle.ifx_rules.proofs.CurvePlaces.{IsPlace, mean, place_of}

-- a part of a fraction
abbrev pub part : ℕ → Fraction → Fraction
part d f = divided f (whole (pos d))

pub is_part : {d e : ℕ} {f : Fraction} {z : ℤ} → 1 ≤ d → Is f e z → Is (part d f) (d * e) z
is_part {d} {e} some i = is_divided (mul-pos some i.positive) i (is_whole (pos d) e i.positive)

-- ---- a curve through whole numbers, at a place

value_height : (values : List ℤ) (i : ℕ) → Is (height_at (map whole values) i) 1 (value_at values i)
value_height values i =
    subst (λ f. Is f 1 (value_at values i)) (sym (get_or-map whole values i (pos 0)))
    (subst (Is _ 1) (once (value_at values i)) (is_whole (value_at values i) 1 (omega arith)))
  where
    once : (z : ℤ) → z *ℤ pos 1 ≡ z
    once z = omega (arith, ints)

pub curve_place : {n : ℕ} {t : Fraction} (p : IsPlace n t) (values : List ℤ) → length values ≡ n → Is (curve values t) p.span (mean p.span p.way (value_at values p.place) (value_at values (suc p.place)))
unfolding curve
curve_place p values h = is_renamed (omega arith) (p.through (map whole values) 1 _ _ (length-map values whole ∙ h) (value_height values p.place) (value_height values (suc p.place)))

listed : (f : ℕ → ℤ) (n i : ℕ) → i < n → value_at (map f (range_with_len 0 n)) i ≡ f i
listed f n i h = get_or-map-range_with_len f 0 n i i (pos 0) h (omega arith)

curve_listed : {n : ℕ} {t : Fraction} (p : IsPlace n t) (f : ℕ → ℤ) → Is (curve (map f (range_with_len 0 n)) t) p.span (mean p.span p.way (f p.place) (f (suc p.place)))
curve_listed {n} {t} p f =
    subst (Is (curve (map f (range_with_len 0 n)) t) p.span) (ap₂ (mean p.span p.way) (listed f n p.place (omega (arith, p.inside))) (listed f n (suc p.place) p.inside))
    (curve_place p (map f (range_with_len 0 n)) (length-map-range_with_len f 0 n))

-- ---- a map at two places

-- what a place along y makes of column ix, and one along x of line iy
abbrev pub in_column : {t : Fraction} (m : MapData) → IsPlace m.ny t → ℕ → ℤ
in_column m q ix = mean q.span q.way (map_at m ix q.place) (map_at m ix (suc q.place))

abbrev pub in_line : {t : Fraction} (m : MapData) → IsPlace m.nx t → ℕ → ℤ
in_line m p iy = mean p.span p.way (map_at m p.place iy) (map_at m (suc p.place) iy)

column_height : (m : MapData) (ty : Fraction) (q : IsPlace m.ny ty) (ix : ℕ) → ix < m.nx → Is (height_at (map (λ ix. curve (column_of m ix) ty) (range_with_len 0 m.nx)) ix) q.span (in_column m q ix)
column_height m ty q ix h =
    subst (λ f. Is f q.span (in_column m q ix)) (sym (get_or-map-range_with_len (λ ix. curve (column_of m ix) ty) 0 m.nx ix ix _ h (omega arith)))
    (curve_listed q (map_at m ix))

surface_place : (m : MapData) (tx ty : Fraction) (p : IsPlace m.nx tx) (q : IsPlace m.ny ty) → Is (surface m tx ty) (q.span * p.span) (mean p.span p.way (in_column m q p.place) (in_column m q (suc p.place)))
unfolding surface
surface_place m tx ty p q =
    p.through (map (λ ix. curve (column_of m ix) ty) (range_with_len 0 m.nx)) q.span _ _ (length-map-range_with_len (λ ix. curve (column_of m ix) ty) 0 m.nx)
    (column_height m ty q p.place (omega (arith, p.inside))) (column_height m ty q (suc p.place) p.inside)

-- ---- one position held fast

-- along x: the curve through what each column has at ty
abbrev pub columns_at : {t : Fraction} (m : MapData) → IsPlace m.ny t → List ℤ
columns_at m q = map (in_column m q) (range_with_len 0 m.nx)

pub surface_along_x : (m : MapData) (ty : Fraction) (q : IsPlace m.ny ty) (tx : Fraction) → 2 ≤ m.nx → Same (surface m tx ty) (part q.span (curve (columns_at m q) tx))
surface_along_x m ty q tx some =
    let p = place_of m.nx tx some in
    Same-in (surface_place m tx ty p q) (is_part q.some (curve_listed p (in_column m q))) refl

-- along y: the curve through what each line has at tx
abbrev pub lines_at : {t : Fraction} (m : MapData) → IsPlace m.nx t → List ℤ
lines_at m p = map (in_line m p) (range_with_len 0 m.ny)

turned : (a b c d : ℤ) (r w s u : ℕ) → (a *ℤ pos s +ℤ b *ℤ pos u) *ℤ pos r +ℤ (c *ℤ pos s +ℤ d *ℤ pos u) *ℤ pos w ≡ (a *ℤ pos r +ℤ c *ℤ pos w) *ℤ pos s +ℤ (b *ℤ pos r +ℤ d *ℤ pos w) *ℤ pos u
turned a b c d r w s u = rw (as_difference a, as_difference b, as_difference c, as_difference d) (simp differences (same _ _ _ _ (omega arith)))

pub surface_along_y : (m : MapData) (tx : Fraction) (p : IsPlace m.nx tx) (ty : Fraction) → 2 ≤ m.ny → Same (surface m tx ty) (part p.span (curve (lines_at m p) ty))
surface_along_y m tx p ty some =
    let q = place_of m.ny ty some in
    Same-in (surface_place m tx ty p q) (is_renamed (omega arith) (is_part p.some (curve_listed q (in_line m p))))
    (turned (map_at m p.place q.place) (map_at m p.place (suc q.place)) (map_at m (suc p.place) q.place) (map_at m (suc p.place) (suc q.place)) (p.span - p.way) p.way (q.span - q.way) q.way)

-- ---- how steep these curves are

moved : (a b c d : ℤ) (r w : ℕ) → (a *ℤ pos r +ℤ b *ℤ pos w) -ℤ (c *ℤ pos r +ℤ d *ℤ pos w) ≡ (a -ℤ c) *ℤ pos r +ℤ (b -ℤ d) *ℤ pos w
moved a b c d r w = rw (as_difference a, as_difference b, as_difference c, as_difference d) (simp differences (same _ _ _ _ (omega arith)))

mean_moves : (a b c d : ℤ) (r w : ℕ) → unsigned_abs ((a *ℤ pos r +ℤ b *ℤ pos w) -ℤ (c *ℤ pos r +ℤ d *ℤ pos w)) ≤ unsigned_abs (a -ℤ c) * r + unsigned_abs (b -ℤ d) * w
mean_moves a b c d r w =
    rw (moved a b c d r w) (omega (arith, unsigned_abs-add_le ((a -ℤ c) *ℤ pos r) ((b -ℤ d) *ℤ pos w), unsigned_abs-mul_pos (a -ℤ c) r, unsigned_abs-mul_pos (b -ℤ d) w))

weighted_moves : (ac bd n G r w k : ℕ) → k ≤ ac * r + bd * w → ac * G ≤ n → bd * G ≤ n → k * G ≤ n * (r + w)
weighted_moves ac bd n G r w k h p q = omega (arith, mul-le-mul h (le_refl G), mul-le-mul p (le_refl r), mul-le-mul q (le_refl w))

pub mean_gentle : (a b c d : ℤ) (span way D G gap : ℕ) → way ≤ span → unsigned_abs (a -ℤ c) * G ≤ D * gap → unsigned_abs (b -ℤ d) * G ≤ D * gap → unsigned_abs (mean span way a b -ℤ mean span way c d) * G ≤ D * span * gap
mean_gentle a b c d span way D G gap h p q =
    let all : span - way + way ≡ span = omega (arith, h) in
    let moves = weighted_moves _ _ (D * gap) G (span - way) way _ (mean_moves a b c d (span - way) way) p q in
    omega (arith, moves, ap (λ n. D * gap * n) all)

listed_step : (f : ℕ → ℤ) (n i : ℕ) → suc i < n → step_at (map f (range_with_len 0 n)) i ≡ unsigned_abs (f (suc i) -ℤ f i)
listed_step f n i h = ap₂ (λ v w. unsigned_abs (v -ℤ w)) (listed f n (suc i) h) (listed f n i (omega (arith, h)))

pub columns_gentle : (m : MapData) {t : Fraction} (q : IsPlace m.ny t) (i D G gap : ℕ) → suc i < m.nx → ((iy : ℕ) → iy < m.ny → unsigned_abs (map_at m (suc i) iy -ℤ map_at m i iy) * G ≤ D * gap) → step_at (columns_at m q) i * G ≤ D * q.span * gap
columns_gentle m q i D G gap h steps =
    rw (listed_step (in_column m q) m.nx i h)
    (mean_gentle (map_at m (suc i) q.place) (map_at m (suc i) (suc q.place)) (map_at m i q.place) (map_at m i (suc q.place)) q.span q.way D G gap q.short (steps q.place (omega (arith, q.inside))) (steps (suc q.place) q.inside))

pub lines_gentle : (m : MapData) {t : Fraction} (p : IsPlace m.nx t) (i D G gap : ℕ) → suc i < m.ny → ((ix : ℕ) → ix < m.nx → unsigned_abs (map_at m ix (suc i) -ℤ map_at m ix i) * G ≤ D * gap) → step_at (lines_at m p) i * G ≤ D * p.span * gap
lines_gentle m p i D G gap h steps =
    rw (listed_step (in_line m p) m.ny i h)
    (mean_gentle (map_at m p.place (suc i)) (map_at m (suc p.place) (suc i)) (map_at m p.place i) (map_at m (suc p.place) i) p.span p.way D G gap p.short (steps p.place (omega (arith, p.inside))) (steps (suc p.place) p.inside))
