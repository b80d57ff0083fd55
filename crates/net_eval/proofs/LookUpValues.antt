-- What look-ups give lies in the kind of their wire: a position between 0 and that of the last point, a curve's value in its table's
-- type.
use Rattle.std.proofs.Common.{◌≡◌, ℕ, zero, suc, ◌+◌, ◌-◌, ◌*◌, ◌<◌, ◌≤◌, Bool, true, false, cond, List, [], ◌∷◌, length, ℤ, pos, ◌+ℤ◌, ◌-ℤ◌, ◌*ℤ◌, ◌≤ℤ◌, ◌<ℤ◌, refl, sym, ap, ◌∙◌, subst, arith, zero-mul, inl, inr}
use Rattle.std.specs.Prelude.{unsigned_abs}
use native.Mathlib.Nat.{mul-pos}
use Rattle.std.proofs.lemmas.Bool.{cases_lt}
use Rattle.std.proofs.lemmas.Int.{ints}
use Rattle.std.proofs.lemmas.List.{get_or_past}
use Rattle.fx_fraction.specs.Fraction.{Fraction, denom, whole, plus, minus, Is}
use Rattle.fx_fraction.proofs.Denominators.{is_self, is_whole, is_plus, is_minus, is_times, is_divided, is_renamed, AtMost-in, AtMost-out}
use Rattle.fx_fraction.proofs.Polynomials.{differences, as_difference, same}
use Rattle.fx_fraction.proofs.WholeNumbers.{int_add-mul, int_is_natural, int_le-false, int_le-mul_pos, int_le-pos, int_le-true, int_le_trans, int_sub-mul}
use Rattle.fx_core.specs.declared.quotient.Mode.TheVariants.{Floor}
use Rattle.fx_core.specs.declared.word_type.Ty.{Ty}
use Rattle.fx_core.specs.declared.word_type.Ty.TheVariants.{U8, S8, U16, S16, U32, S32}
use Rattle.fx_core.specs.Types.{Holds, greatest_of, least_of}
use Rattle.fx_core.specs.Values.{rounded_fraction}
use Rattle.fx_core.proofs.RoundingLaws.{rounded_above, rounded_below}
use Rattle.fx_routines.specs.declared.interpolation.CurveOp.{CurveOp}
use Rattle.fx_routines.specs.declared.interpolation.CurveOp.TheVariants.{Ipo, LkUp}
use Rattle.ifx_search.specs.Axes.{IsAxis, point_at}
use Rattle.ifx_search.specs.Positions.{is_at_most, position, position_value, way_in}
use Rattle.ifx_curves.specs.Curves.{curve, curve_through, curve_value, looked_up, nearer_point, on_way}
use Rattle.ifx_curves.proofs.CurvePoints.{is_on_way_of_values}
use Rattle.ifx_curves.specs.Tables.{IsTable, value_at}

-- ---- fractions between two whole numbers

record IsBetween (low high : ℤ) (f : Fraction) : Type 0 where
  pub above : (low *ℤ pos (denom f)) ≤ℤ f.numer
  pub below : f.numer ≤ℤ (high *ℤ pos (denom f))

-- by any of its names
between_by : (low high : ℤ) {f : Fraction} {d : ℕ} {z : ℤ} → Is f d z → (low *ℤ pos d) ≤ℤ z → z ≤ℤ (high *ℤ pos d) → IsBetween low high f
between_by low high {f} {d} i h k =
    let own = is_self f in
    record {
      above = AtMost-out (is_whole low (denom f) own.positive) own (AtMost-in (is_whole low d i.positive) i h);
      below = AtMost-out own (is_whole high (denom f) own.positive) (AtMost-in i (is_whole high d i.positive) k);
    }

whole_between : (low high z : ℤ) → low ≤ℤ z → z ≤ℤ high → IsBetween low high (whole z)
whole_between low high z h k =
    between_by low high (is_whole z 1 (omega arith)) (int_le-mul_pos low z 1 h) (int_le-mul_pos z high 1 k)

-- between wider ends
wider : (low high more : ℤ) (f : Fraction) → high ≤ℤ more → IsBetween low high f → IsBetween low more f
wider low high more f h b = record { above = b.above; below = int_le_trans _ _ _ b.below (int_le-mul_pos high more (denom f) h) }

rounded_between : (low high : ℤ) (f : Fraction) → IsBetween low high f → (low ≤ℤ rounded_fraction Floor f) × (rounded_fraction Floor f ≤ℤ high)
rounded_between low high f b =
    let one : pos 1 ≤ℤ pos (denom f) = int_le-pos 1 (denom f) (omega arith) in
    (rounded_above Floor f.numer (pos (denom f)) low one b.above, rounded_below Floor f.numer (pos (denom f)) high one b.below)

-- ---- positions

-- the way into a segment, over a denominator
is_way_in : (p q : ℤ) {x : Fraction} {d : ℕ} {a : ℤ} {g : ℕ} → 1 ≤ g → q -ℤ p ≡ pos g → Is x d a → Is (way_in p q x) (g * d) (pos 65536 *ℤ (a -ℤ p *ℤ pos d))
unfolding way_in
is_way_in p q {x} {d} {a} {g} some long i =
    let rise = is_renamed (omega arith) (is_times (is_whole (pos 65536) 1 (omega arith)) (is_minus i (is_whole p d i.positive))) in
    let run = subst (λ n. Is (minus (whole q) (whole p)) d n) (sym (int_sub-mul q p (pos d)) ∙ ap (λ t. t *ℤ pos d) long) (is_minus (is_whole q d i.positive) (is_whole p d i.positive)) in
    is_divided (mul-pos some i.positive) rise run

above_start : (p a : ℤ) (d n : ℕ) → (p *ℤ pos d) <ℤ a → (pos 0 *ℤ pos n) ≤ℤ (pos 65536 *ℤ (a -ℤ p *ℤ pos d))
above_start p a d n h = omega (arith, ints, zero-mul n, h)

below_end : (p q a : ℤ) (d g : ℕ) → q -ℤ p ≡ pos g → a ≤ℤ (q *ℤ pos d) → (pos 65536 *ℤ (a -ℤ p *ℤ pos d)) ≤ℤ (pos 65536 *ℤ pos (g * d))
below_end p q a d g e h =
    let k = sym (int_sub-mul q p (pos d)) ∙ ap (λ t. t *ℤ pos d) e in
    omega (arith, ints, h, k)

way_between : (p q : ℤ) (x : Fraction) → p <ℤ q → is_at_most x p ≡ false → is_at_most x q ≡ true → IsBetween (pos 0) (pos 65536) (way_in p q x)
way_between p q x rise h k =
    let g = unsigned_abs (q -ℤ p) in
    let some : 1 ≤ g = omega (arith, ints, rise) in
    let long : q -ℤ p ≡ pos g = omega (arith, ints, rise) in
    between_by (pos 0) (pos 65536) (is_way_in p q some long (is_self x)) (above_start p x.numer (denom x) (g * denom x) (int_le-false _ _ h)) (below_end p q x.numer (denom x) g long (int_le-true _ _ k))

more_low : (z : ℤ) (d : ℕ) → (pos 0 *ℤ pos d) ≤ℤ z → (pos 0 *ℤ pos d) ≤ℤ (pos 65536 *ℤ pos d +ℤ z)
more_low z d h = omega (arith, ints, zero-mul d, h)

more_high : (z : ℤ) (d n : ℕ) → z ≤ℤ (pos (65536 * n) *ℤ pos d) → (pos 65536 *ℤ pos d +ℤ z) ≤ℤ (pos (65536 * suc n) *ℤ pos d)
more_high z d n h =
    let all : pos (65536 * suc n) ≡ pos 65536 +ℤ pos (65536 * n) = omega (arith, ints) in
    let sum = ap (λ t. t *ℤ pos d) all ∙ int_add-mul (pos 65536) (pos (65536 * n)) (pos d) in
    omega (arith, ints, h, sum)

-- one segment further on
passed_between : (f : Fraction) (n : ℕ) → IsBetween (pos 0) (pos (65536 * n)) f → IsBetween (pos 0) (pos (65536 * suc n)) (plus (whole (pos 65536)) f)
passed_between f n b =
    let i = is_self f in
    between_by (pos 0) (pos (65536 * suc n)) (is_plus (is_whole (pos 65536) (denom f) i.positive) i) (more_low f.numer (denom f) b.above) (more_high f.numer (denom f) n b.below)

zero_between : (n : ℕ) → IsBetween (pos 0) (pos n) (whole (pos 0))
zero_between n = whole_between (pos 0) (pos n) (pos 0) (int_le-pos 0 0 (omega arith)) (int_le-pos 0 n (omega arith))

segment_between : (p q : ℤ) (x f : Fraction) (n : ℕ) (a b : Bool) → p <ℤ q → is_at_most x p ≡ a → is_at_most x q ≡ b → IsBetween (pos 0) (pos (65536 * n)) f → IsBetween (pos 0) (pos (65536 * suc n)) (cond a (whole (pos 0)) (cond b (way_in p q x) (plus (whole (pos 65536)) f)))
segment_between p q x f n true b rise h k rest = zero_between (65536 * suc n)
segment_between p q x f n false true rise h k rest =
    wider (pos 0) (pos 65536) (pos (65536 * suc n)) (way_in p q x) (int_le-pos 65536 (65536 * suc n) (omega arith)) (way_between p q x rise h k)
segment_between p q x f n false false rise h k rest = passed_between f n rest

-- each point is above the one before
abbrev Rises : List ℤ → Type 0
Rises points = (i : ℕ) → suc i < length points → point_at points i <ℤ point_at points (suc i)

position_between : (points : List ℤ) (x : Fraction) (n : ℕ) → Rises points → length points ≤ suc n → IsBetween (pos 0) (pos (65536 * n)) (position points x)
unfolding position
position_between [] x n rises few = zero_between (65536 * n)
position_between (p ∷ []) x n rises few = zero_between (65536 * n)
position_between (p ∷ q ∷ points) x zero rises few = absurd (omega (arith, few))
position_between (p ∷ q ∷ points) x (suc n) rises few =
    segment_between p q x (position (q ∷ points) x) n _ _ (rises 0 (omega arith)) refl refl (position_between (q ∷ points) x n (λ i lt. rises (suc i) (omega (arith, lt))) (omega (arith, few)))

-- the position of a number on an axis
pub position_held : (ty : Ty) (points : List ℤ) (x : ℤ) → IsAxis ty points → (pos 0 ≤ℤ position_value points x) × (position_value points x ≤ℤ pos (65536 * (length points - 1)))
position_held ty points x axis =
    rounded_between (pos 0) (pos (65536 * (length points - 1))) (position points (whole x)) (position_between points (whole x) (length points - 1) axis.rising (omega arith))

-- ---- curves

-- as a mean with weights
weighted : (v w : ℤ) (r n : ℕ) → v *ℤ pos (r + n) +ℤ (w -ℤ v) *ℤ pos n ≡ v *ℤ pos r +ℤ w *ℤ pos n
weighted v w r n = rw (as_difference v, as_difference w) (simp differences (same _ _ _ _ (omega arith)))

spread : (z : ℤ) (r n : ℕ) → z *ℤ pos (r + n) ≡ z *ℤ pos r +ℤ z *ℤ pos n
spread z r n = rw (as_difference z) (simp differences (same _ _ _ _ (omega arith)))

mean_above : (low v w : ℤ) (r n : ℕ) → low ≤ℤ v → low ≤ℤ w → (low *ℤ pos (r + n)) ≤ℤ (v *ℤ pos (r + n) +ℤ (w -ℤ v) *ℤ pos n)
mean_above low v w r n h k =
    rw (weighted v w r n, spread low r n) (omega (arith, ints, int_le-mul_pos low v r h, int_le-mul_pos low w n k))

mean_below : (high v w : ℤ) (r n : ℕ) → v ≤ℤ high → w ≤ℤ high → (v *ℤ pos (r + n) +ℤ (w -ℤ v) *ℤ pos n) ≤ℤ (high *ℤ pos (r + n))
mean_below high v w r n h k =
    rw (weighted v w r n, spread high r n) (omega (arith, ints, int_le-mul_pos v high r h, int_le-mul_pos w high n k))

on_way_between : (ty : Ty) (v w : ℤ) (t : Fraction) → Holds ty v → Holds ty w → is_at_most t (pos 0) ≡ false → is_at_most t (pos 65536) ≡ true → IsBetween (least_of ty) (greatest_of ty) (on_way (whole v) (whole w) t)
on_way_between ty v w t h k above below =
    let d = denom t in
    let low : pos 0 ≤ℤ t.numer = at_zero t.numer d (int_le-false _ _ above) in
    let high : t.numer ≤ℤ (pos 65536 *ℤ pos d) = int_le-true _ _ below in
    by_way d (unsigned_abs t.numer) (65536 * d - unsigned_abs t.numer) (parts t.numer d low high) (subst (Is t d) (int_is_natural t.numer low) (is_self t))
  where
    at_zero : (z : ℤ) (d : ℕ) → (pos 0 *ℤ pos d) <ℤ z → pos 0 ≤ℤ z
    at_zero z d h = omega (arith, ints, zero-mul d, h)

    parts : (z : ℤ) (d : ℕ) → pos 0 ≤ℤ z → z ≤ℤ (pos 65536 *ℤ pos d) → 65536 * d ≡ 65536 * d - unsigned_abs z + unsigned_abs z
    parts z d h k = omega (arith, ints, h, k)

    by_way : (d n r : ℕ) → 65536 * d ≡ r + n → Is t d (pos n) → IsBetween (least_of ty) (greatest_of ty) (on_way (whole v) (whole w) t)
    by_way d n r e i =
        let at : Is (on_way (whole v) (whole w) t) (r + n) (v *ℤ pos (r + n) +ℤ (w -ℤ v) *ℤ pos n) = subst (λ m. Is (on_way (whole v) (whole w) t) m (v *ℤ pos m +ℤ (w -ℤ v) *ℤ pos n)) e (is_on_way_of_values v w i) in
        between_by (least_of ty) (greatest_of ty) at (mean_above (least_of ty) v w r n h.0 k.0) (mean_below (greatest_of ty) v w r n h.1 k.1)

stretch_between : (ty : Ty) (v w : ℤ) (t f : Fraction) (a b : Bool) → Holds ty v → Holds ty w → is_at_most t (pos 0) ≡ a → is_at_most t (pos 65536) ≡ b → IsBetween (least_of ty) (greatest_of ty) f → IsBetween (least_of ty) (greatest_of ty) (cond a (whole v) (cond b (on_way (whole v) (whole w) t) f))
stretch_between ty v w t f true b h k p q rest = whole_between (least_of ty) (greatest_of ty) v h.0 h.1
stretch_between ty v w t f false true h k p q rest = on_way_between ty v w t h k p q
stretch_between ty v w t f false false h k p q rest = rest

-- each value is one of the type
abbrev AreOf : Ty → List ℤ → Type 0
AreOf ty values = (i : ℕ) → i < length values → Holds ty (value_at values i)

curve_between : (ty : Ty) (values : List ℤ) (t : Fraction) → 1 ≤ length values → AreOf ty values → IsBetween (least_of ty) (greatest_of ty) (curve values t)
unfolding curve curve_through
curve_between ty [] t some held = absurd (omega (arith, some))
curve_between ty (v ∷ []) t some held = let h = held 0 (omega arith) in whole_between (least_of ty) (greatest_of ty) v h.0 h.1
curve_between ty (v ∷ w ∷ values) t some held =
    stretch_between ty v w t (curve (w ∷ values) (minus t (whole (pos 65536)))) _ _ (held 0 (omega arith)) (held 1 (omega arith)) refl refl (curve_between ty (w ∷ values) (minus t (whole (pos 65536))) (omega arith) (λ i lt. held (suc i) (omega (arith, lt))))

-- 0 is a number of each type
zero_held : (ty : Ty) → Holds ty (pos 0)
zero_held U8 = (omega (arith, ints), omega (arith, ints))
zero_held S8 = (omega (arith, ints), omega (arith, ints))
zero_held U16 = (omega (arith, ints), omega (arith, ints))
zero_held S16 = (omega (arith, ints), omega (arith, ints))
zero_held U32 = (omega (arith, ints), omega (arith, ints))
zero_held S32 = (omega (arith, ints), omega (arith, ints))

-- so is what stands at any place, 0 behind the last value
place_held : (ty : Ty) (values : List ℤ) (i : ℕ) → AreOf ty values → Holds ty (value_at values i)
place_held ty values i held =
    elim (cases_lt i (length values)) [
      | inl there ↦ held i there
      | inr past ↦ subst (Holds ty) (sym (get_or_past values i (pos 0) past)) (zero_held ty)
    ]

looked_up_held : (ty : Ty) (values : List ℤ) (n : ℕ) → AreOf ty values → Holds ty (looked_up values n)
unfolding looked_up
looked_up_held ty values n held = place_held ty values (nearer_point n) held

-- the value of a curve through a table, at any position
pub curve_held : (op : CurveOp) (ty : Ty) (values : List ℤ) (t : Fraction) → IsTable ty values → Holds ty (curve_value op values t)
unfolding curve_value
curve_held Ipo ty values t table =
    rounded_between (least_of ty) (greatest_of ty) (curve values t) (curve_between ty values t (omega (arith, table.some)) table.held)
curve_held LkUp ty values t table = looked_up_held ty values _ table.held
