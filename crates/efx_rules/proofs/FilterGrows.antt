-- The rules of the filters are monotone: from narrower bounds each gives bounds inside of those from wide ones.
use Rattle.std.specs.Prelude.{ℕ, ◌-◌, ◌*◌, Bool, true, false, ℤ, pos, ◌+ℤ◌, ◌*ℤ◌, ◌≤ℤ◌, unsigned_abs, if◌then◌else◌}
use Rattle.std.proofs.Common.{arith}
use Rattle.std.proofs.lemmas.Int.{ints}
use Rattle.fx_fraction.specs.Fraction.{whole}
use Rattle.fx_fraction.proofs.WholeNumbers.{int_le_refl, int_le-add, int_le-pos, int_le-min, int_le-max}
use Rattle.part_rules.specs.declared.bounds.Bounds.{Bounds}
use Rattle.part_rules.specs.Ranges.{corner_values, ends_of}
use Rattle.part_rules.specs.PartRules.{LiesInside}
use Rattle.part_rules.proofs.Within.{whole_within}
use Rattle.part_rules.proofs.CornerHulls.{IsInside}
use Rattle.part_rules.proofs.RangesGrow.{AreInside, AreNarrower, HullInside, corner_values_inside, hull_inside}
use Rattle.part_rules.proofs.ErrorsGrow.{above_grows, products_grow, wide_positive}
use Rattle.efx_rules.specs.FilterRules.{gain_rounded, gain_bounds, gain_error, is_whole_gain, lag_rounded, lag_bounds, lag_error, difference_rounded, difference_bounds, value_rounded, value_bounds, average_bounds}
use Rattle.efx_rules.proofs.FilterSoundness.{AreWithin, gain_within, lag_within, difference_within, value_within}

-- ---- ranges

-- whole numbers in wide ranges are within these of themselves
wholes_within : (n : ℕ) (narrow wide : ℕ → Bounds) → AreNarrower n narrow wide → (m : ℕ → ℤ) → AreInside n wide m → AreWithin n wide m (λ p. whole (m p))
wholes_within n narrow wide narrower m inside p l = whole_within (wide p) (m p) (wide_positive (narrow p) (wide p) (narrower p l)) (inside p l)

-- ---- errors

one : pos 1 ≤ℤ pos 65536
one = omega (arith, ints)

natural : (n : ℕ) → pos 0 ≤ℤ pos n
natural n = int_le-pos _ _ (omega arith)

half_more : (a b : ℤ) → a ≤ℤ b → (a +ℤ pos 32768) ≤ℤ (b +ℤ pos 32768)
half_more a b h = int_le-add _ _ _ _ h (int_le_refl (pos 32768))

gain_error_by : (a b : ℤ) (t : Bool) → a ≤ℤ b → (if t then a else a +ℤ pos 32768) ≤ℤ (if t then b else b +ℤ pos 32768)
gain_error_by a b true h = h
gain_error_by a b false h = half_more a b h

gain_error_grows : (k err fel : ℤ) → pos 0 ≤ℤ err → err ≤ℤ fel → gain_error k err ≤ℤ gain_error k fel
unfolding gain_error
gain_error_grows k err fel p h =
    let through : (pos (unsigned_abs k) *ℤ err) ≤ℤ (pos (unsigned_abs k) *ℤ fel) = products_grow _ _ _ _ (natural (unsigned_abs k)) p (int_le_refl _) h in
    gain_error_by _ _ (is_whole_gain k) (above_grows _ _ (pos 65536) one through)

lag_error_grows : (teq : ℕ) (k old drive old' drive' : ℤ) → pos 0 ≤ℤ old → pos 0 ≤ℤ drive → old ≤ℤ old' → drive ≤ℤ drive' → lag_error teq k old drive ≤ℤ lag_error teq k old' drive'
unfolding lag_error
lag_error_grows teq k old drive old' drive' p q h l =
    let kept : (pos teq *ℤ old) ≤ℤ (pos teq *ℤ old') = products_grow _ _ _ _ (natural teq) p (int_le_refl _) h in
    let weight = pos ((65536 - teq) * unsigned_abs k) in
    let driven : (weight *ℤ drive) ≤ℤ (weight *ℤ drive') = products_grow _ _ _ _ (natural _) q (int_le_refl weight) l in
    half_more _ _ (above_grows _ _ (pos 65536) one (int_le-add _ _ _ _ kept driven))

-- ---- the rules

pub gain_grows : (k : ℤ) (narrow wide : ℕ → Bounds) → AreNarrower 1 narrow wide → LiesInside (gain_bounds k narrow) (gain_bounds k wide)
unfolding gain_bounds
gain_grows k narrow wide n =
    let x = n 0 (omega arith) in
    let within : (m : ℕ → ℤ) → AreInside 1 wide m → IsInside (gain_bounds k wide).lo (gain_bounds k wide).hi (gain_rounded k m) = λ m i. let w = gain_within k wide m (λ p. whole (m p)) (wholes_within 1 narrow wide n m i) in record { low = w.low; high = w.high } in
    let h : HullInside (gain_bounds k wide).lo (gain_bounds k wide).hi (corner_values (gain_rounded k) (ends_of 1 narrow)) = hull_inside _ _ _ (omega arith) (corner_values_inside 1 (gain_rounded k) narrow wide _ _ n within) in
    record { low = h.low; high = h.high; error = gain_error_grows k _ _ x.proper.positive x.inside.error }

pub lag_grows : (teq : ℕ) (k : ℤ) (narrow wide : ℕ → Bounds) → AreNarrower 2 narrow wide → LiesInside (lag_bounds teq k narrow) (lag_bounds teq k wide)
unfolding lag_bounds
lag_grows teq k narrow wide n =
    let y = n 0 (omega arith) in
    let x = n 1 (omega arith) in
    let within : (m : ℕ → ℤ) → AreInside 2 wide m → IsInside (lag_bounds teq k wide).lo (lag_bounds teq k wide).hi (lag_rounded teq k m) = λ m i. let w = lag_within teq k wide m (λ p. whole (m p)) (wholes_within 2 narrow wide n m i) in record { low = w.low; high = w.high } in
    let h : HullInside (lag_bounds teq k wide).lo (lag_bounds teq k wide).hi (corner_values (lag_rounded teq k) (ends_of 2 narrow)) = hull_inside _ _ _ (omega arith) (corner_values_inside 2 (lag_rounded teq k) narrow wide _ _ n within) in
    record { low = h.low; high = h.high; error = lag_error_grows teq k _ _ _ _ y.proper.positive x.proper.positive y.inside.error x.inside.error }

pub difference_grows : (teq : ℕ) (k : ℤ) (narrow wide : ℕ → Bounds) → AreNarrower 3 narrow wide → LiesInside (difference_bounds teq k narrow) (difference_bounds teq k wide)
unfolding difference_bounds
difference_grows teq k narrow wide n =
    let y = n 0 (omega arith) in
    let x = n 1 (omega arith) in
    let z = n 2 (omega arith) in
    let within : (m : ℕ → ℤ) → AreInside 3 wide m → IsInside (difference_bounds teq k wide).lo (difference_bounds teq k wide).hi (difference_rounded teq k m) = λ m i. let w = difference_within teq k wide m (λ p. whole (m p)) (wholes_within 3 narrow wide n m i) in record { low = w.low; high = w.high } in
    let h : HullInside (difference_bounds teq k wide).lo (difference_bounds teq k wide).hi (corner_values (difference_rounded teq k) (ends_of 3 narrow)) = hull_inside _ _ _ (omega arith) (corner_values_inside 3 (difference_rounded teq k) narrow wide _ _ n within) in
    let both : pos 0 ≤ℤ ((narrow 1).err +ℤ (narrow 2).err) = int_le-add (pos 0) _ (pos 0) _ x.proper.positive z.proper.positive in
    record { low = h.low; high = h.high; error = lag_error_grows teq k _ _ _ _ y.proper.positive both y.inside.error (int_le-add _ _ _ _ x.inside.error z.inside.error) }

pub value_grows : (narrow wide : ℕ → Bounds) → AreNarrower 1 narrow wide → LiesInside (value_bounds narrow) (value_bounds wide)
unfolding value_bounds
value_grows narrow wide n =
    let y = n 0 (omega arith) in
    let within : (m : ℕ → ℤ) → AreInside 1 wide m → IsInside (value_bounds wide).lo (value_bounds wide).hi (value_rounded m) = λ m i. let w = value_within wide m (λ p. whole (m p)) (wholes_within 1 narrow wide n m i) in record { low = w.low; high = w.high } in
    let h : HullInside (value_bounds wide).lo (value_bounds wide).hi (corner_values value_rounded (ends_of 1 narrow)) = hull_inside _ _ _ (omega arith) (corner_values_inside 1 value_rounded narrow wide _ _ n within) in
    record { low = h.low; high = h.high; error = half_more _ _ (above_grows _ _ (pos 65536) one y.inside.error) }

pub average_grows : (narrow wide : ℕ → Bounds) → AreNarrower 2 narrow wide → LiesInside (average_bounds narrow) (average_bounds wide)
unfolding average_bounds
average_grows narrow wide n =
    let x = (n 0 (omega arith)).inside in
    let y = (n 1 (omega arith)).inside in
    record { low = int_le-min _ _ _ _ x.low y.low; high = int_le-max _ _ _ _ x.high y.high; error = half_more _ _ (int_le-max _ _ _ _ x.error y.error) }
