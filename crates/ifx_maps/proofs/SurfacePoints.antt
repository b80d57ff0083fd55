-- The map at the ends of two stretches.
use Rattle.std.specs.Prelude.{◌≡◌, ℕ, suc, ◌+◌, ◌-◌, ◌*◌, ◌/◌, ◌<◌, ◌≤◌, Bool, true, false, if◌then◌else◌, nat_lt, ℤ, pos, ◌+ℤ◌, ◌*ℤ◌, map}
use Rattle.std.specs.List.{range_with_len}
use Rattle.std.proofs.Common.{refl, sym, ap, ap₂, ◌∙◌, subst, arith, div-mul-le_self}
use Rattle.std.proofs.Math.Nat.{lt-div-mul-add}
use Rattle.std.proofs.lemmas.Bool.Decides.{nat_tests}
use Rattle.std.proofs.lemmas.List.FromFn.{get_or-map-range_with_len, length-map-range_with_len}
use Rattle.std.specs.Prelude.{unsigned_abs}
use Rattle.fx_fraction.specs.Fraction.{Fraction, Is}
use Rattle.fx_core.specs.declared.quotient.Mode.TheVariants.{Floor}
use Rattle.fx_core.specs.Rounding.{rounded}
use Rattle.fx_routines.specs.declared.interpolation.MapOp.TheVariants.{Ipo, LkUp, LkUpBase}
use Rattle.ifx_curves.specs.Curves.{curve}
use Rattle.ifx_curves.specs.Tables.{value_at}
use Rattle.ifx_curves.proofs.CurvePoints.{floor_position, height_at, is_curve, is_through, nearer, rounded_name, smaller}
use Rattle.ifx_maps.specs.Maps.{MapData, map_at}
use Rattle.ifx_maps.specs.Surfaces.{column_of, lower_point, map_value, surface, whole_position}

-- the two values of column ix from line j on, with the weights of a way u of e
abbrev pub sum_in : MapData → ℕ → ℕ → ℕ → ℕ → ℤ
sum_in m j e u ix = map_at m ix j *ℤ pos (e - u) +ℤ map_at m ix (suc j) *ℤ pos u

value_at-column_of : (m : MapData) (ix iy : ℕ) → iy < m.ny → value_at (column_of m ix) iy ≡ map_at m ix iy
value_at-column_of m ix iy h = get_or-map-range_with_len (λ iy. map_at m ix iy) 0 m.ny iy iy (pos 0) h (omega arith)

-- a column at a position along y
is_column : (m : MapData) (ix j e u : ℕ) (ty : Fraction) → suc j < m.ny → u ≤ e → Is ty e (pos (65536 * j * e + 65536 * u)) → Is (curve (column_of m ix) ty) e (sum_in m j e u ix)
is_column m ix j e u ty h k p =
    subst (Is _ e) (ap₂ (λ v w. v *ℤ pos (e - u) +ℤ w *ℤ pos u) (value_at-column_of m ix j (omega (arith, h))) (value_at-column_of m ix (suc j) h))
    (is_curve (column_of m ix) j e u ty (simp length-map-range_with_len h) k p)

abbrev heights_of : MapData → Fraction → ℕ → Fraction
heights_of m ty ix = curve (column_of m ix) ty

is_height : (m : MapData) (ix j e u : ℕ) (ty : Fraction) → ix < m.nx → suc j < m.ny → u ≤ e → Is ty e (pos (65536 * j * e + 65536 * u)) → Is (height_at (map (λ ix. curve (column_of m ix) ty) (range_with_len 0 m.nx)) ix) e (sum_in m j e u ix)
is_height m ix j e u ty g h k p =
    subst (λ f. Is f e (sum_in m j e u ix)) (sym (get_or-map-range_with_len (heights_of m ty) 0 m.nx ix ix _ g (omega arith))) (is_column m ix j e u ty h k p)

-- the map: the sums of two columns, with the weights of a way w of d
pub is_surface : (m : MapData) (i d w j e u : ℕ) (tx ty : Fraction) → suc i < m.nx → suc j < m.ny → w ≤ d → u ≤ e → Is tx d (pos (65536 * i * d + 65536 * w)) → Is ty e (pos (65536 * j * e + 65536 * u))
    → Is (surface m tx ty) (e * d) (sum_in m j e u i *ℤ pos (d - w) +ℤ sum_in m j e u (suc i) *ℤ pos w)
unfolding surface
is_surface m i d w j e u tx ty g h k l p q =
    is_through (map (λ ix. curve (column_of m ix) ty) (range_with_len 0 m.nx)) i e d w _ _ tx (simp length-map-range_with_len g) k
    (is_height m i j e u ty (omega (arith, g)) h l q) (is_height m (suc i) j e u ty g h l q) p

pub interpolates : (m : MapData) (i d w j e u : ℕ) (tx ty : Fraction) → suc i < m.nx → suc j < m.ny → w ≤ d → u ≤ e → Is tx d (pos (65536 * i * d + 65536 * w)) → Is ty e (pos (65536 * j * e + 65536 * u))
    → rounded Floor (sum_in m j e u i *ℤ pos (d - w) +ℤ sum_in m j e u (suc i) *ℤ pos w) (pos (e * d)) ≡ map_value Ipo m tx ty
unfolding map_value
interpolates m i d w j e u tx ty g h k l p q = sym (rounded_name (surface m tx ty) (e * d) _ (is_surface m i d w j e u tx ty g h k l p q))

-- ---- looked up

pub looks_up : (m : MapData) (i d w j e u : ℕ) (tx ty : Fraction) → w ≤ d → u ≤ e → Is tx d (pos (65536 * i * d + 65536 * w)) → Is ty e (pos (65536 * j * e + 65536 * u))
    → map_at m (if nat_lt (2 * w) d then i else suc i) (if nat_lt (2 * u) e then j else suc j) ≡ map_value LkUp m tx ty
unfolding map_value
looks_up m i d w j e u tx ty k l p q = ap₂ (map_at m) (nearer i d w tx k p) (nearer j e u ty l q)

-- the lower point, by the part of the way
lower_by : (i d w q : ℕ) (b : Bool) → w ≤ d → 1 ≤ d → q * d ≤ 65536 * w → 65536 * w < q * d + d → nat_lt w d ≡ b → (if b then i else suc i) ≡ (65536 * i + q) / 65536
lower_by i d w q true h some low high e =
    let inside : w < d = grind (arith, nat_tests) in
    let less : q < 65536 = smaller q 65536 d (omega (arith, inside, low)) in
    omega (arith, less)
lower_by i d w q false h some low high e =
    let all : w ≡ d = grind (arith, nat_tests) in
    let less : q < 65537 = smaller q 65537 d (omega (arith, all, low, some)) in
    let more : 65535 < q = smaller 65535 q d (omega (arith, all, high)) in
    omega (arith, less, more)

lower : (i d w : ℕ) (t : Fraction) → w ≤ d → Is t d (pos (65536 * i * d + 65536 * w)) → (if nat_lt w d then i else suc i) ≡ lower_point (whole_position t)
lower i d w t k p =
    lower_by i d w (65536 * w / d) _ k p.positive (div-mul-le_self (65536 * w) d) (lt-div-mul-add {a = 65536 * w} {b = d} p.positive) refl
    ∙ ap (λ z. lower_point (unsigned_abs z)) (sym (floor_position i d w t p))

pub looks_up_base : (m : MapData) (i d w j e u : ℕ) (tx ty : Fraction) → w ≤ d → u ≤ e → Is tx d (pos (65536 * i * d + 65536 * w)) → Is ty e (pos (65536 * j * e + 65536 * u))
    → map_at m (if nat_lt w d then i else suc i) (if nat_lt u e then j else suc j) ≡ map_value LkUpBase m tx ty
unfolding map_value
looks_up_base m i d w j e u tx ty k l p q = ap₂ (map_at m) (lower i d w tx k p) (lower j e u ty l q)
