-- The curve at a position over any denominator.
use Rattle.std.specs.Prelude.{◌≡◌, ℕ, zero, suc, ◌+◌, ◌-◌, ◌*◌, ◌<◌, ◌≤◌, Bool, true, false, if◌then◌else◌, ℤ, pos, ◌+ℤ◌, ◌-ℤ◌, ◌*ℤ◌, ◌≤ℤ◌, ◌<ℤ◌, nat_lt, unsigned_abs, ◌/◌, ◌%◌, List, [], ◌∷◌, length, map, get_or}
use Rattle.std.proofs.Common.{refl, sym, ap, ap₂, ◌∙◌, subst, arith, mul-zero, mul-le-mul_right, div-mul-le_self, inl, inr}
use Rattle.std.proofs.Math.Nat.{lt-div-mul-add, mul-pos}
use Rattle.std.proofs.Math.ListN.{get_or-map, length-map}
use Rattle.std.proofs.lemmas.Int.{ints}
use borrow.Author.Differences.{up, down, below_in, at_most_in}
use Rattle.fx_fraction.specs.Fraction.{Fraction, denom, whole, plus, minus, times, divided, Is, Same}
use Rattle.fx_fraction.proofs.Denominators.{is_whole, is_plus, is_minus, is_times, is_divided, is_renamed, is_same, is_scaled, common_two, Same-in}
use Rattle.fx_fraction.proofs.Polynomials.{differences, as_difference, same}
use Rattle.fx_fraction.proofs.WholeNumbers.{int_le-true, int_le-false, int_eq_of-mul, int_le_of-mul, int_lt_of-mul, int_le-mul_pos, int_lt-mul_pos}
use Rattle.fx_core.specs.declared.quotient.Mode.TheVariants.{Floor}
use Rattle.fx_core.specs.Rounding.{rounded}
use Rattle.fx_core.specs.Values.{rounded_fraction}
use Rattle.fx_core.proofs.RoundingLaws.{rounded_from_rounds, rounds-rounded}
use Rattle.std.proofs.lemmas.Bool.{cases_lt}
use Rattle.std.proofs.lemmas.Bool.Decides.{nat_tests}
use Rattle.ifx_search.specs.Positions.{is_at_most}
use Rattle.ifx_curves.specs.Curves.{curve, curve_through, curve_value, looked_up, nearer_point, on_way}
use Rattle.fx_routines.specs.declared.interpolation.CurveOp.TheVariants.{Ipo, LkUp}
use Rattle.ifx_curves.specs.Tables.{value_at}

-- ---- a test of a fraction, over any denominator

crossed : (n z : ℤ) (a d : ℕ) (k : ℤ) → n *ℤ pos d ≡ z *ℤ pos a → k *ℤ pos a *ℤ pos d ≡ k *ℤ pos d *ℤ pos a
crossed n z a d k e = rw (as_difference k) (simp differences (same _ _ _ _ (omega arith)))

pub at_most_out : (t : Fraction) (k z : ℤ) (d : ℕ) → Is t d z → is_at_most t k ≡ true → z ≤ℤ (k *ℤ pos d)
at_most_out t k z d i e =
    let h = int_le-mul_pos t.numer (k *ℤ pos (denom t)) d (int_le-true t.numer (k *ℤ pos (denom t)) e) in
    int_le_of-mul z (k *ℤ pos d) (denom t) (omega arith) (rw (sym i.equal, sym (crossed t.numer z (denom t) d k i.equal)) h)

pub not_at_most_out : (t : Fraction) (k z : ℤ) (d : ℕ) → Is t d z → is_at_most t k ≡ false → (k *ℤ pos d) <ℤ z
not_at_most_out t k z d i e =
    let h = int_lt-mul_pos (k *ℤ pos (denom t)) t.numer d i.positive (int_le-false t.numer (k *ℤ pos (denom t)) e) in
    int_lt_of-mul (k *ℤ pos d) z (denom t) (rw (sym i.equal, sym (crossed t.numer z (denom t) d k i.equal)) h)

-- ---- on one segment

cancelled : (f : Fraction) (d : ℕ) (n : ℤ) → 1 ≤ d → Is f (65536 * d) (n *ℤ pos 65536) → Is f d n
cancelled f d n some i = record { positive = some; equal = int_eq_of-mul (f.numer *ℤ pos d) (n *ℤ pos (denom f)) 65536 (omega arith) (spread f.numer d ∙ i.equal ∙ turned n (denom f)) }
  where
    spread : (m : ℤ) (d : ℕ) → m *ℤ pos d *ℤ pos 65536 ≡ m *ℤ pos (65536 * d)
    spread m d = rw (as_difference m) (simp differences (same _ _ _ _ (omega arith)))

    turned : (m : ℤ) (a : ℕ) → m *ℤ pos 65536 *ℤ pos a ≡ m *ℤ pos a *ℤ pos 65536
    turned m a = rw (as_difference m) (simp differences (same _ _ _ _ (omega arith)))

-- between two heights over one denominator: their mean with weights
pub is_on_way : (f g t : Fraction) (c d w : ℕ) (x y : ℤ) → w ≤ d → Is f c x → Is g c y → Is t d (pos (65536 * w)) → Is (on_way f g t) (c * d) (x *ℤ pos (d - w) +ℤ y *ℤ pos w)
unfolding on_way
is_on_way f g t c d w x y h i j k =
    let some : 1 ≤ c * d = mul-pos i.positive k.positive in
    let rise = is_times (is_minus j i) k in
    let way = is_divided {n = 65536 * (c * d)} (omega (arith, some)) rise (is_whole (pos 65536) (c * d) some) in
    let rest : d ≡ d - w + w = omega (arith, h) in
    subst (Is _ (c * d)) (ap (λ n. x *ℤ pos n +ℤ (y -ℤ x) *ℤ pos w) rest ∙ weighted x y (d - w) w)
    (is_plus (is_scaled d k.positive i) (cancelled _ (c * d) ((y -ℤ x) *ℤ pos w) some (subst (Is _ (65536 * (c * d))) (gathered (y -ℤ x) w) way)))
  where
    gathered : (z : ℤ) (w : ℕ) → z *ℤ pos (65536 * w) ≡ z *ℤ pos w *ℤ pos 65536
    gathered z w = rw (as_difference z) (simp differences (same _ _ _ _ (omega arith)))

    weighted : (x y : ℤ) (r w : ℕ) → x *ℤ pos (r + w) +ℤ (y -ℤ x) *ℤ pos w ≡ x *ℤ pos r +ℤ y *ℤ pos w
    weighted x y r w = rw (as_difference x, as_difference y) (simp differences (same _ _ _ _ (omega arith)))

-- between two values, at any position
pub is_on_way_of_values : (v w : ℤ) {t : Fraction} {d : ℕ} {x : ℤ} → Is t d x → Is (on_way (whole v) (whole w) t) (65536 * d) (v *ℤ pos (65536 * d) +ℤ (w -ℤ v) *ℤ x)
unfolding on_way
is_on_way_of_values v w {t} {d} {x} i =
    let some : 1 ≤ 65536 * d = omega (arith, i.positive) in
    let rise = is_renamed (omega arith) (is_times (is_minus (is_whole w 1 (omega arith)) (is_whole v 1 (omega arith))) i) in
    let way = is_divided some rise (is_whole (pos 65536) d i.positive) in
    subst (λ r. Is (plus (whole v) (divided (times (minus (whole w) (whole v)) t) (whole (pos 65536)))) (65536 * d) (v *ℤ pos (65536 * d) +ℤ r *ℤ x)) (ones v w) (is_plus (is_whole v (65536 * d) some) way)
  where
    ones : (v w : ℤ) → w *ℤ pos 1 -ℤ v *ℤ pos 1 ≡ w -ℤ v
    ones v w = omega (arith, ints)

nothing_of : (z : ℤ) (n : ℕ) → n ≡ 0 → z *ℤ pos n ≡ pos 0
nothing_of z n e = rw (e, as_difference z) (simp differences (same _ _ _ _ (omega (arith, mul-zero (up z), mul-zero (down z)))))

-- at the first of the two it is that one
at_start : (f : Fraction) (c d w : ℕ) (x y : ℤ) → 1 ≤ d → w ≡ 0 → Is f c x → Is f (c * d) (x *ℤ pos (d - w) +ℤ y *ℤ pos w)
at_start f c d w x y some none i = subst (Is f (c * d)) (sum x y d w none) (is_scaled d some i)
  where
    sum : (x y : ℤ) (d w : ℕ) → w ≡ 0 → x *ℤ pos d ≡ x *ℤ pos (d - w) +ℤ y *ℤ pos w
    sum x y d w none =
        let left : d - w ≡ d = omega (arith, none) in
        omega (arith, ints, nothing_of y w none, ap (λ n. x *ℤ pos n) left)

-- and at the second that one
at_finish : (f g t : Fraction) (d : ℕ) → Is t d (pos (65536 * d)) → Same g (on_way f g t)
at_finish f g t d p =
    let c = common_two f g in
    Same-in (is_scaled d p.positive c.second) (is_on_way f g t c.bottom d d c.x c.y (omega arith) c.first c.second p) (sum c.x c.y d)
  where
    sum : (x y : ℤ) (d : ℕ) → y *ℤ pos d ≡ x *ℤ pos (d - d) +ℤ y *ℤ pos d
    sum x y d = omega (arith, ints, nothing_of x (d - d) (omega arith))

-- ---- on the curve

-- height number i, from 0
abbrev pub height_at : List Fraction → ℕ → Fraction
height_at heights i = get_or heights i (whole (pos 0))

-- at any position of the segment from height i on
pub is_through : (heights : List Fraction) (i c d w : ℕ) (x y : ℤ) (t : Fraction) → suc i < length heights → w ≤ d → Is (height_at heights i) c x → Is (height_at heights (suc i)) c y → Is t d (pos (65536 * i * d + 65536 * w))
    → Is (curve_through heights t) (c * d) (x *ℤ pos (d - w) +ℤ y *ℤ pos w)
unfolding curve_through
is_through [] i c d w x y t h k a b p = absurd (omega (arith, h))
is_through (f ∷ []) i c d w x y t h k a b p = absurd (omega (arith, h))
is_through (f ∷ g ∷ heights) zero c d w x y t h k a b p = by_tests _ _ refl refl
  where
    p' : Is t d (pos (65536 * w))
    p' = subst (λ n. Is t d (pos n)) (omega arith) p

    by_tests : (u v : Bool) → is_at_most t (pos 0) ≡ u → is_at_most t (pos 65536) ≡ v → Is (if u then f else if v then on_way f g t else curve_through (g ∷ heights) (minus t (whole (pos 65536)))) (c * d) (x *ℤ pos (d - w) +ℤ y *ℤ pos w)
    by_tests true v e r = let none = at_most_out t (pos 0) _ d p' e in at_start f c d w x y p'.positive (omega (arith, ints, none)) a
    by_tests false true e r = is_on_way f g t c d w x y k a b p'
    by_tests false false e r = let less = not_at_most_out t (pos 65536) _ d p' r in absurd (omega (arith, ints, less, k))
is_through (f ∷ g ∷ heights) (suc j) c d w x y t h k a b p = by_tests _ _ refl refl (λ q. is_through (g ∷ heights) j c d w x y (minus t (whole (pos 65536))) (omega (arith, h)) k a b q)
  where
    rest : Is (minus t (whole (pos 65536))) d (pos (65536 * j * d + 65536 * w))
    rest = subst (Is _ d) (omega (arith, ints)) (is_minus p (is_whole (pos 65536) d p.positive))

    -- at its start, which is the end of the segment before
    first_end : (pos (65536 * suc j * d + 65536 * w)) ≤ℤ (pos 65536 *ℤ pos d) → (j ≡ 0) × (w ≡ 0)
    first_end under = (place j d (omega (arith, ints, under)) p.positive, omega (arith, ints, under))
      where
        twice : (j : ℕ) → 65536 * 2 ≤ 65536 * suc (suc j)
        twice j = omega arith

        place : (j d : ℕ) → 65536 * suc j * d ≤ 65536 * d → 1 ≤ d → j ≡ 0
        place zero d l some = refl
        place (suc j) d l some = absurd (omega (arith, l, some, mul-le-mul_right d (twice j)))

    at_one : (j : ℕ) → j ≡ 0 → Is (height_at (g ∷ heights) j) c x → Is g c x
    at_one zero e i = i
    at_one (suc j) e i = absurd (omega (arith, e))

    ended : (j ≡ 0) × (w ≡ 0) → Is (on_way f g t) (c * d) (x *ℤ pos (d - w) +ℤ y *ℤ pos w)
    ended e = is_same (at_finish f g t d (subst (λ n. Is t d (pos n)) (all j e.0 e.1) p)) (at_start g c d w x y p.positive e.1 (at_one j e.0 a))
      where
        all : (j : ℕ) → j ≡ 0 → w ≡ 0 → 65536 * suc j * d + 65536 * w ≡ 65536 * d
        all zero e e' = omega (arith, e')
        all (suc j) e e' = absurd (omega (arith, e))

    by_tests : (u v : Bool) → is_at_most t (pos 0) ≡ u → is_at_most t (pos 65536) ≡ v → (Is (minus t (whole (pos 65536))) d (pos (65536 * j * d + 65536 * w)) → Is (curve_through (g ∷ heights) (minus t (whole (pos 65536)))) (c * d) (x *ℤ pos (d - w) +ℤ y *ℤ pos w))
        → Is (if u then f else if v then on_way f g t else curve_through (g ∷ heights) (minus t (whole (pos 65536)))) (c * d) (x *ℤ pos (d - w) +ℤ y *ℤ pos w)
    by_tests true v e r later = let less = at_most_out t (pos 0) _ d p e in absurd (omega (arith, ints, less, p.positive))
    by_tests false true e r later = ended (first_end (at_most_out t (pos 65536) _ d p r))
    by_tests false false e r later = later rest

-- a value as a height
is_value : (values : List ℤ) (i : ℕ) → Is (height_at (map whole values) i) 1 (value_at values i)
is_value values i =
    subst (λ f. Is f 1 (value_at values i)) (sym (get_or-map whole values i (pos 0)))
    (subst (Is _ 1) (once (value_at values i)) (is_whole (value_at values i) 1 (omega arith)))
  where
    once : (z : ℤ) → z *ℤ pos 1 ≡ z
    once z = omega (arith, ints)

-- the curve through values, at the end of a stretch
pub is_curve : (values : List ℤ) (i d w : ℕ) (t : Fraction) → suc i < length values → w ≤ d → Is t d (pos (65536 * i * d + 65536 * w)) → Is (curve values t) d (value_at values i *ℤ pos (d - w) +ℤ value_at values (suc i) *ℤ pos w)
unfolding curve
is_curve values i d w t h k p =
    is_renamed (omega arith) (is_through (map whole values) i 1 d w (value_at values i) (value_at values (suc i)) t (simp length-map h) k (is_value values i) (is_value values (suc i)) p)

-- ---- rounded

-- a fraction is rounded as any other of its names
pub rounded_name : (f : Fraction) (d : ℕ) (z : ℤ) → Is f d z → rounded_fraction Floor f ≡ rounded Floor z (pos d)
rounded_name f d z i =
    let one : pos 1 ≤ℤ pos d = at_most_in _ _ (omega (arith, ints, i.positive)) in
    let r = rounded Floor z (pos d) in
    let bounds : ((r *ℤ pos d) ≤ℤ z) × (z <ℤ ((r +ℤ pos 1) *ℤ pos d)) = rounds-rounded Floor z (pos d) one in
    sym (rounded_from_rounds Floor f.numer (pos (denom f)) r (at_most_in _ _ (omega (arith, ints))) (
      int_le_of-mul _ _ d i.positive (rw (i.equal, turned r d (denom f)) (int_le-mul_pos _ _ (denom f) bounds.0)),
      int_lt_of-mul _ _ d (rw (i.equal, turned (r +ℤ pos 1) d (denom f)) (int_lt-mul_pos _ _ (denom f) (omega arith) bounds.1)),
    ))
  where
    turned : (x : ℤ) (a b : ℕ) → x *ℤ pos b *ℤ pos a ≡ x *ℤ pos a *ℤ pos b
    turned x a b = rw (as_difference x) (simp differences (same _ _ _ _ (omega arith)))

-- what a routine gives of the curve at the end of a stretch
pub interpolates : (values : List ℤ) (i d w : ℕ) (t : Fraction) → suc i < length values → w ≤ d → Is t d (pos (65536 * i * d + 65536 * w)) → rounded Floor (value_at values i *ℤ pos (d - w) +ℤ value_at values (suc i) *ℤ pos w) (pos d) ≡ curve_value Ipo values t
unfolding curve_value
interpolates values i d w t h k p = sym (rounded_name (curve values t) d _ (is_curve values i d w t h k p))

-- a position rounded downward
pub floor_position : (i d w : ℕ) (t : Fraction) → Is t d (pos (65536 * i * d + 65536 * w)) → rounded_fraction Floor t ≡ pos (65536 * i + 65536 * w / d)
floor_position i d w t p =
    rounded_name t d _ p
    ∙ sym (rounded_from_rounds Floor _ (pos d) (pos (65536 * i + 65536 * w / d)) (at_most_in _ _ (omega (arith, ints, p.positive))) (
      at_most_in _ _ (omega (arith, ints, div-mul-le_self (65536 * w) d)),
      below_in _ _ (omega (arith, ints, lt-div-mul-add {a = 65536 * w} {b = d} p.positive)),
    ))

-- a number is smaller where its product is
pub smaller : (q k d : ℕ) → q * d < k * d → q < k
smaller q k d h =
    elim (cases_lt q k) [
      | inl less ↦ less
      | inr more ↦ absurd (omega (arith, h, mul-le-mul_right d more))
    ]

-- the nearer point behind a whole segment
nearer_behind : (i q : ℕ) (b : Bool) → q < 65536 → nat_lt q 32768 ≡ b → (if b then i else suc i) ≡ nearer_point (65536 * i + q)
nearer_behind i q b less e =
    let rest : (65536 * i + q) % 65536 ≡ q = omega (arith, less) in
    let place : (65536 * i + q) / 65536 ≡ i = omega (arith, less) in
    ap (λ b. if b then i else suc i) (sym e) ∙ ap₂ (λ m n. if nat_lt m 32768 then n else suc n) (sym rest) (sym place)

-- the nearer point, by the part of the way
nearer_by : (i d w q : ℕ) (a b : Bool) → w ≤ d → 1 ≤ d → q * d ≤ 65536 * w → 65536 * w < q * d + d → nat_lt (2 * w) d ≡ a → nat_lt w d ≡ b → (if a then i else suc i) ≡ nearer_point (65536 * i + q)
nearer_by i d w q true b h some low high e f =
    let half : 2 * w < d = grind (arith, nat_tests) in
    let less : q < 32768 = smaller q 32768 d (omega (arith, half, low)) in
    nearer_behind i q true (omega (arith, less)) (grind (arith, nat_tests))
nearer_by i d w q false true h some low high e f =
    let half : d ≤ 2 * w = grind (arith, nat_tests) in
    let inside : w < d = grind (arith, nat_tests) in
    let less : q < 65536 = smaller q 65536 d (omega (arith, inside, low)) in
    let more : 32767 < q = smaller 32767 q d (omega (arith, half, high, some)) in
    nearer_behind i q false less (grind (arith, nat_tests))
nearer_by i d w q false false h some low high e f =
    let all : w ≡ d = grind (arith, nat_tests) in
    let less : q < 65537 = smaller q 65537 d (omega (arith, all, low, some)) in
    let more : 65535 < q = smaller 65535 q d (omega (arith, all, high)) in
    let end : q ≡ 65536 = omega (arith, less, more) in
    let next : 65536 * i + q ≡ 65536 * suc i + 0 = omega (arith, end) in
    nearer_behind (suc i) 0 true (omega arith) refl ∙ ap nearer_point (sym next)

pub nearer : (i d w : ℕ) (t : Fraction) → w ≤ d → Is t d (pos (65536 * i * d + 65536 * w)) → (if nat_lt (2 * w) d then i else suc i) ≡ nearer_point (unsigned_abs (rounded_fraction Floor t))
nearer i d w t k p =
    nearer_by i d w (65536 * w / d) _ _ k p.positive (div-mul-le_self (65536 * w) d) (lt-div-mul-add {a = 65536 * w} {b = d} p.positive) refl refl
    ∙ ap (λ z. nearer_point (unsigned_abs z)) (sym (floor_position i d w t p))

pub looks_up : (values : List ℤ) (i d w : ℕ) (t : Fraction) → w ≤ d → Is t d (pos (65536 * i * d + 65536 * w)) → value_at values (if nat_lt (2 * w) d then i else suc i) ≡ curve_value LkUp values t
unfolding curve_value looked_up
looks_up values i d w t k p = ap (value_at values) (nearer i d w t k p)
