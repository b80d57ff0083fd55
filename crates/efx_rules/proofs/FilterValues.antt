-- The formulas of the filters at whole numbers, rounded, and where these lie between the ends of ranges.
use Rattle.std.specs.Prelude.{◌≡◌, ℕ, ℤ, pos, ◌+ℤ◌, ◌-ℤ◌, ◌*ℤ◌, ◌≤ℤ◌}
use Rattle.std.proofs.Common.{refl, ap, ap₂, ◌∙◌, arith, inl, inr}
use Rattle.std.proofs.lemmas.Int.{ints}
use Rattle.fx_fraction.specs.Fraction.{whole, plus, minus, times, divided, quotient}
use Rattle.fx_fraction.proofs.WholeNumbers.{int_add_comm, int_le_refl, int_le_of-lt, int_le-add, int_le-mul, int_le-mul_reversed, int_lt_or_le, int_mul-one}
use Rattle.fx_core.specs.declared.quotient.Mode.TheVariants.{Near as Nearest}
use Rattle.fx_core.specs.Arguments.{two}
use Rattle.fx_core.specs.Rounding.{rounded}
use Rattle.fx_core.specs.Values.{rounded_fraction}
use Rattle.fx_core.proofs.RoundingLaws.{rounded_monotone}
use Rattle.part_rules.proofs.CornerHulls.{IsBetween, LiesBetween}
use Rattle.efx_filters.specs.Formulas.{drive_weight, gain_formula, lag_formula, value_formula}
use Rattle.efx_rules.specs.FilterRules.{gain_rounded, lag_rounded, difference_rounded, value_rounded}

-- ---- fractions at whole numbers

pub plus-whole : (x y : ℤ) → plus (whole x) (whole y) ≡ whole (x +ℤ y)
unfolding plus whole
plus-whole x y = ap whole (ap₂ (λ s t. s +ℤ t) (int_mul-one x) (int_mul-one y))

minus-whole : (x y : ℤ) → minus (whole x) (whole y) ≡ whole (x -ℤ y)
unfolding minus whole
minus-whole x y = ap whole (ap₂ (λ s t. s -ℤ t) (int_mul-one x) (int_mul-one y))

pub times-whole : (x y : ℤ) → times (whole x) (whole y) ≡ whole (x *ℤ y)
unfolding times whole
times-whole x y = refl

pub divided-whole : (n d : ℤ) → divided (whole n) (whole d) ≡ quotient n d
unfolding divided whole
divided-whole n d = ap₂ quotient (int_mul-one n) (int_mul-one d)

-- a number with 16 fractional bits, rounded
unfoldable pub nearest : ℤ → ℤ
nearest n = rounded Nearest n (pos 65536)

nearest-whole : (n : ℤ) → rounded_fraction Nearest (divided (whole n) (whole (pos 65536))) ≡ nearest n
unfolding quotient nearest
nearest-whole n = ap (rounded_fraction Nearest) (divided-whole n (pos 65536))

-- ---- the filters at whole numbers

pub gain-whole : (k : ℤ) (m : ℕ → ℤ) → gain_rounded k m ≡ nearest (m 0 *ℤ k)
unfolding gain_rounded gain_formula
gain-whole k m = ap (λ f. rounded_fraction Nearest (divided f (whole (pos 65536)))) (times-whole (m 0) k) ∙ nearest-whole (m 0 *ℤ k)

-- a lag's state, with the weights s of the old state and c of what drives it
unfoldable pub weighted : ℤ → ℤ → ℤ → ℤ → ℤ
weighted s c y x = nearest (y *ℤ s +ℤ x *ℤ c)

pub lag-whole : (teq : ℕ) (k : ℤ) (m : ℕ → ℤ) → lag_rounded teq k m ≡ weighted (pos teq) (drive_weight teq k) (m 0) (m 1)
unfolding lag_rounded lag_formula weighted
lag-whole teq k m =
    let c = drive_weight teq k in
    ap (λ f. rounded_fraction Nearest (divided f (whole (pos 65536)))) (ap₂ plus (times-whole (m 0) (pos teq)) (times-whole (m 1) c) ∙ plus-whole (m 0 *ℤ pos teq) (m 1 *ℤ c)) ∙ nearest-whole (m 0 *ℤ pos teq +ℤ m 1 *ℤ c)

-- a difference drives a lag as one number would
pub difference_is_lag : (teq : ℕ) (k : ℤ) (m : ℕ → ℤ) → difference_rounded teq k m ≡ lag_rounded teq k (two (m 0) (m 1 -ℤ m 2))
unfolding difference_rounded lag_rounded
difference_is_lag teq k m = ap (λ f. rounded_fraction Nearest (lag_formula teq k (whole (m 0)) f)) (minus-whole (m 1) (m 2))

pub difference-whole : (teq : ℕ) (k : ℤ) (m : ℕ → ℤ) → difference_rounded teq k m ≡ weighted (pos teq) (drive_weight teq k) (m 0) (m 1 -ℤ m 2)
difference-whole teq k m = difference_is_lag teq k m ∙ lag-whole teq k (two (m 0) (m 1 -ℤ m 2))

pub value-whole : (m : ℕ → ℤ) → value_rounded m ≡ nearest (m 0)
unfolding value_rounded value_formula
value-whole m = nearest-whole (m 0)

-- ---- between the ends of ranges

one : pos 1 ≤ℤ pos 65536
one = omega (arith, ints)

-- a number between two is rounded to one between theirs
between_nearest : (a v b : ℤ) → IsBetween a v b → IsBetween (nearest a) (nearest v) (nearest b)
unfolding nearest
between_nearest a v b (inl h) = inl (record { low = rounded_monotone Nearest a v (pos 65536) one h.low; high = rounded_monotone Nearest v b (pos 65536) one h.high })
between_nearest a v b (inr h) = inr (record { low = rounded_monotone Nearest b v (pos 65536) one h.low; high = rounded_monotone Nearest v a (pos 65536) one h.high })

moved_by : (c a v b : ℤ) → IsBetween a v b → IsBetween (a +ℤ c) (v +ℤ c) (b +ℤ c)
moved_by c a v b (inl h) = inl (record { low = int_le-add _ _ _ _ h.low (int_le_refl c); high = int_le-add _ _ _ _ h.high (int_le_refl c) })
moved_by c a v b (inr h) = inr (record { low = int_le-add _ _ _ _ h.low (int_le_refl c); high = int_le-add _ _ _ _ h.high (int_le_refl c) })

moved_from : (c a v b : ℤ) → IsBetween a v b → IsBetween (c +ℤ a) (c +ℤ v) (c +ℤ b)
moved_from c a v b h = rw (int_add_comm c a, int_add_comm c v, int_add_comm c b) (moved_by c a v b h)

-- a product grows with a factor whose other isn't negative, and falls where it is
times_between : (y a v b : ℤ) → IsBetween a v b → IsBetween (a *ℤ y) (v *ℤ y) (b *ℤ y)
times_between y a v b (inl i) =
    elim (int_lt_or_le (pos 0) y) [
      | inl positive ↦ inl (record { low = int_le-mul a v y i.low (int_le_of-lt _ _ positive); high = int_le-mul v b y i.high (int_le_of-lt _ _ positive) })
      | inr negative ↦ inr (record { low = int_le-mul_reversed v b y i.high negative; high = int_le-mul_reversed a v y i.low negative })
    ]
times_between y a v b (inr i) =
    elim (int_lt_or_le (pos 0) y) [
      | inl positive ↦ inr (record { low = int_le-mul b v y i.low (int_le_of-lt _ _ positive); high = int_le-mul v a y i.high (int_le_of-lt _ _ positive) })
      | inr negative ↦ inl (record { low = int_le-mul_reversed v a y i.high negative; high = int_le-mul_reversed b v y i.low negative })
    ]

pub gain_between : (k a b : ℤ) → LiesBetween (λ x. nearest (x *ℤ k)) a b
gain_between k a b x i = between_nearest _ _ _ (times_between k a x b (inl (record { low = i.low; high = i.high })))

pub old_between : (s c x a b : ℤ) → LiesBetween (λ y. weighted s c y x) a b
unfolding weighted
old_between s c x a b y i = between_nearest _ _ _ (moved_by (x *ℤ c) _ _ _ (times_between s a y b (inl (record { low = i.low; high = i.high }))))

weighted_between : (s c y a x b : ℤ) → IsBetween a x b → IsBetween (weighted s c y a) (weighted s c y x) (weighted s c y b)
unfolding weighted
weighted_between s c y a x b i = between_nearest _ _ _ (moved_from (y *ℤ s) _ _ _ (times_between c a x b i))

pub drive_between : (s c y a b : ℤ) → LiesBetween (weighted s c y) a b
drive_between s c y a b x i = weighted_between s c y a x b (inl (record { low = i.low; high = i.high }))

pub newer_between : (s c y u a b : ℤ) → LiesBetween (λ t. weighted s c y (t -ℤ u)) a b
newer_between s c y u a b t i = let low = i.low in let high = i.high in weighted_between s c y _ _ _ (inl (record { low = omega (arith, ints, low); high = omega (arith, ints, high) }))

pub older_between : (s c y t a b : ℤ) → LiesBetween (λ u. weighted s c y (t -ℤ u)) a b
older_between s c y t a b u i = let low = i.low in let high = i.high in weighted_between s c y _ _ _ (inr (record { low = omega (arith, ints, high); high = omega (arith, ints, low) }))

pub value_between : (a b : ℤ) → LiesBetween nearest a b
value_between a b x i = between_nearest a x b (inl (record { low = i.low; high = i.high }))
