-- The rules of the filters are sound: a part keeps to what its rule gives, where what it reads is within its bounds.
use Rattle.std.specs.Prelude.{◌≡◌, ℕ, ◌-◌, ◌*◌, ◌<◌, Bool, true, false, [], ◌∷◌, ℤ, pos, ◌+ℤ◌, ◌-ℤ◌, ◌*ℤ◌, unsigned_abs, if◌then◌else◌}
use Rattle.std.proofs.Common.{refl, sym, ap, ap₂, subst, arith, ◌∙◌}
use Rattle.std.proofs.lemmas.Bool.Decides.{Decides-int_eq}
use Rattle.std.proofs.lemmas.Int.{unsigned_abs-mul}
use Rattle.fx_fraction.specs.Fraction.{Fraction, whole, denom, minus, plus, times, divided, quotient}
use Rattle.fx_fraction.proofs.WholeNumbers.{int_mul_comm, int_mul_assoc}
use Rattle.fx_core.specs.declared.quotient.Mode.TheVariants.{Near as Nearest}
use Rattle.fx_core.specs.Arguments.{two, three}
use Rattle.fx_core.specs.Rounding.{least_quotient_above}
use Rattle.fx_core.specs.Values.{rounded_fraction}
use Rattle.part_rules.specs.declared.bounds.Bounds.{Bounds}
use Rattle.part_rules.specs.Within.{IsWithin}
use Rattle.part_rules.proofs.CornerHulls.{IsBetween, IsInside, in_hull, between_in_hull, hull_of_corners, hull_of_three_corners}
use Rattle.part_rules.proofs.Nearness.{Near, near_plus, near_minus}
use Rattle.efx_filters.specs.Formulas.{drive_weight, gain_formula, lag_formula, value_formula}
use Rattle.efx_rules.specs.FilterRules.{gain_rounded, gain_bounds, gain_error, is_whole_gain, lag_rounded, lag_bounds, lag_error, difference_rounded, difference_bounds, value_rounded, value_bounds}
use Rattle.efx_rules.proofs.NearestErrors.{near_rounded, near_rounded_whole, near_times, near_divided}
use Rattle.efx_rules.proofs.FilterValues.{times-whole, divided-whole, weighted, gain-whole, lag-whole, difference-whole, value-whole, gain_between, old_between, drive_between, newer_between, older_between, value_between}

pub inside : (b : Bounds) (m : ℤ) (e : Fraction) → IsWithin b m e → IsInside b.lo b.hi m
inside b m e w = record { low = w.low; high = w.high }

near : (b : Bounds) (m : ℤ) (e : Fraction) → IsWithin b m e → Near (whole m) e b.err
near b m e w = record { near = w.near }

-- what each number that is read is within
abbrev pub AreWithin : ℕ → (ℕ → Bounds) → (ℕ → ℤ) → (ℕ → Fraction) → Type 0
AreWithin n given m e = (p : ℕ) → p < n → IsWithin (given p) (m p) (e p)

-- ---- a proportional block

-- where 65536 divides the gain the value at a whole number is one
gain_numer : (k m q : ℤ) → k ≡ q *ℤ pos 65536 → (gain_formula k (whole m)).numer ≡ m *ℤ q *ℤ pos (denom (gain_formula k (whole m)))
unfolding gain_formula quotient
gain_numer k m q e = rw (times-whole m k, divided-whole (m *ℤ k) (pos 65536)) (ap (λ t. m *ℤ t) e ∙ sym (int_mul_assoc m q (pos 65536)))

whole_gain : (k : ℤ) → is_whole_gain k ≡ true → k ≡ least_quotient_above k (pos 65536) *ℤ pos 65536
whole_gain k h = sym ((Decides-int_eq (least_quotient_above k (pos 65536) *ℤ pos 65536) k).0 h)

gain_near_by : (k m err : ℤ) (e : Fraction) (t : Bool) → is_whole_gain k ≡ t → Near (gain_formula k (whole m)) e err → Near (whole (rounded_fraction Nearest (gain_formula k (whole m)))) e (if t then err else err +ℤ pos 32768)
gain_near_by k m err e true is h = near_rounded_whole _ e _ _ (gain_numer k m (least_quotient_above k (pos 65536)) (whole_gain k is)) h
gain_near_by k m err e false is h = near_rounded _ e _ h

through_near : (k m err : ℤ) (e : Fraction) → Near (whole m) e err → Near (gain_formula k (whole m)) (gain_formula k e) (least_quotient_above (pos (unsigned_abs k) *ℤ err) (pos 65536))
unfolding gain_formula
through_near k m err e p = rw (int_mul_comm (pos (unsigned_abs k)) err) (near_divided _ _ 65536 _ (omega arith) (near_times (whole m) e k err p))

gain_near : (k m err : ℤ) (e : Fraction) → Near (whole m) e err → Near (whole (rounded_fraction Nearest (gain_formula k (whole m)))) (gain_formula k e) (gain_error k err)
unfolding gain_error
gain_near k m err e p = gain_near_by k m _ _ _ refl (through_near k m err e p)

pub gain_within : (k : ℤ) (given : ℕ → Bounds) (m : ℕ → ℤ) (e : ℕ → Fraction) → AreWithin 1 given m e → IsWithin (gain_bounds k given) (gain_rounded k m) (gain_formula k (e 0))
unfolding gain_bounds gain_rounded
gain_within k given m e w =
    let x = w 0 (omega arith) in
    let g : ℤ → ℤ = λ s. rounded_fraction Nearest (gain_formula k (whole s)) in
    let vs = g (given 0).lo ∷ g (given 0).hi ∷ [] in
    let between : IsBetween (g (given 0).lo) (g (m 0)) (g (given 0).hi) = rw (gain-whole k (λ p. (given 0).lo), gain-whole k m, gain-whole k (λ p. (given 0).hi)) (gain_between k (given 0).lo (given 0).hi (m 0) (inside _ _ _ x)) in
    let hull = between_in_hull vs (g (given 0).lo) (g (m 0)) (g (given 0).hi) (in_hull vs 0 (omega arith)) (in_hull vs 1 (omega arith)) between in
    record { low = hull.low; high = hull.high; near = (gain_near k (m 0) (given 0).err (e 0) (near _ _ _ x)).near }

-- ---- lags

errors_by_weight : (teq : ℕ) (k old drive : ℤ) → old *ℤ pos teq +ℤ drive *ℤ pos (unsigned_abs (drive_weight teq k)) ≡ pos teq *ℤ old +ℤ pos (65536 - teq) *ℤ pos (unsigned_abs k) *ℤ drive
errors_by_weight teq k old drive =
    let size : unsigned_abs (drive_weight teq k) ≡ (65536 - teq) * unsigned_abs k = unsigned_abs-mul (pos (65536 - teq)) k in
    ap₂ (λ s t. s +ℤ t) (int_mul_comm old (pos teq)) (ap (λ n. drive *ℤ pos n) size ∙ int_mul_comm drive (pos ((65536 - teq) * unsigned_abs k)))

lag_near : (teq : ℕ) (k old drive : ℤ) (a b e f : Fraction) → Near a e old → Near b f drive → Near (whole (rounded_fraction Nearest (lag_formula teq k a b))) (lag_formula teq k e f) (lag_error teq k old drive)
unfolding lag_formula lag_error
lag_near teq k old drive a b e f p q =
    let c = drive_weight teq k in
    let sum = near_plus _ _ _ _ _ _ (near_times a e (pos teq) old p) (near_times b f c drive q) in
    let named = subst (Near (plus (times a (whole (pos teq))) (times b (whole c))) (plus (times e (whole (pos teq))) (times f (whole c)))) (errors_by_weight teq k old drive) sum in
    near_rounded _ _ _ (near_divided _ _ 65536 _ (omega arith) named)

pub lag_within : (teq : ℕ) (k : ℤ) (given : ℕ → Bounds) (m : ℕ → ℤ) (e : ℕ → Fraction) → AreWithin 2 given m e → IsWithin (lag_bounds teq k given) (lag_rounded teq k m) (lag_formula teq k (e 0) (e 1))
unfolding lag_bounds lag_rounded
lag_within teq k given m e w =
    let y = w 0 (omega arith) in
    let x = w 1 (omega arith) in
    let c = drive_weight teq k in
    let hull = hull_of_corners (λ s t. rounded_fraction Nearest (lag_formula teq k (whole s) (whole t))) (weighted (pos teq) c) _ _ _ _ [] (λ s t i j. lag-whole teq k (two s t)) (λ t j. old_between (pos teq) c t _ _) (λ s i. drive_between (pos teq) c s _ _) (m 0) (m 1) (inside _ _ _ y) (inside _ _ _ x) in
    record { low = hull.low; high = hull.high; near = (lag_near teq k _ _ _ _ _ _ (near _ _ _ y) (near _ _ _ x)).near }

pub difference_within : (teq : ℕ) (k : ℤ) (given : ℕ → Bounds) (m : ℕ → ℤ) (e : ℕ → Fraction) → AreWithin 3 given m e → IsWithin (difference_bounds teq k given) (difference_rounded teq k m) (lag_formula teq k (e 0) (minus (e 1) (e 2)))
unfolding difference_bounds difference_rounded
difference_within teq k given m e w =
    let y = w 0 (omega arith) in
    let x = w 1 (omega arith) in
    let z = w 2 (omega arith) in
    let c = drive_weight teq k in
    let hull = hull_of_three_corners (λ s t u. rounded_fraction Nearest (lag_formula teq k (whole s) (minus (whole t) (whole u)))) (λ s t u. weighted (pos teq) c s (t -ℤ u)) _ _ _ _ _ _ (λ s t u i j l. difference-whole teq k (three s t u)) (λ t u j l. old_between (pos teq) c (t -ℤ u) _ _) (λ s u i l. newer_between (pos teq) c s u _ _) (λ s t i j. older_between (pos teq) c s t _ _) (m 0) (m 1) (m 2) (inside _ _ _ y) (inside _ _ _ x) (inside _ _ _ z) in
    record { low = hull.low; high = hull.high; near = (lag_near teq k _ _ _ _ _ _ (near _ _ _ y) (near_minus _ _ _ _ _ _ (near _ _ _ x) (near _ _ _ z))).near }

-- ---- the value of a block with a state

pub value_within : (given : ℕ → Bounds) (m : ℕ → ℤ) (e : ℕ → Fraction) → AreWithin 1 given m e → IsWithin (value_bounds given) (value_rounded m) (value_formula (e 0))
unfolding value_bounds value_rounded value_formula
value_within given m e w =
    let y = w 0 (omega arith) in
    let g : ℤ → ℤ = λ s. rounded_fraction Nearest (divided (whole s) (whole (pos 65536))) in
    let vs = g (given 0).lo ∷ g (given 0).hi ∷ [] in
    let between : IsBetween (g (given 0).lo) (g (m 0)) (g (given 0).hi) = rw (value-whole (λ p. (given 0).lo), value-whole m, value-whole (λ p. (given 0).hi)) (value_between (given 0).lo (given 0).hi (m 0) (inside _ _ _ y)) in
    let hull = between_in_hull vs (g (given 0).lo) (g (m 0)) (g (given 0).hi) (in_hull vs 0 (omega arith)) (in_hull vs 1 (omega arith)) between in
    record { low = hull.low; high = hull.high; near = (near_rounded _ _ _ (near_divided (whole (m 0)) (e 0) 65536 (given 0).err (omega arith) (near _ _ _ y))).near }
