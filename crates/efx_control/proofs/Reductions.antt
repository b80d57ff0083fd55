-- The formulas on fractions as quotients of whole numbers.
use Rattle.std.proofs.Common.{◌≡◌, ℕ, ℤ, pos, ◌+ℤ◌, ◌-ℤ◌, ◌*ℤ◌, Bool, true, false, cond, refl, sym, ap, ap₂, ◌∙◌, arith}
use Rattle.std.specs.Prelude.{if◌then◌else◌, int_le, int_lt}
use Rattle.std.specs.Int.{int_max, int_min}
use Rattle.std.proofs.lemmas.Int.{clamps, ints}
use Rattle.fx_fraction.specs.Fraction.{Fraction, whole, plus, minus, times, divided, greater, lesser, quotient}
use Rattle.fx_core.specs.declared.quotient.Mode.TheVariants.{Near}
use Rattle.fx_core.specs.Rounding.{rounded}
use Rattle.fx_core.specs.Types.{saturated_to}
use Rattle.fx_core.specs.Values.{rounded_fraction}
use Rattle.fx_core.proofs.RoundingLaws.{rounded-*ℤ, rounded_by_one}
use Rattle.efx_filters.specs.Formulas.{state_greatest, state_least}
use Rattle.efx_control.specs.Formulas.{before_weight, input_weight, limited_formula, pi_formula, ramp_formula}
use Rattle.efx_control.specs.States.{kept_state}

times_one : (n : ℤ) → n *ℤ pos 1 ≡ n
times_one n = omega (arith, ints)

-- ---- PI controllers

-- the numerator of a new state, over 65536
abbrev pub pi_numer : Bool → ℤ → ℕ → ℤ → ℤ → ℤ → ℤ
pi_numer second k r y x x1 = y *ℤ pos 65536 +ℤ (x *ℤ input_weight second k r -ℤ x1 *ℤ before_weight second k r)

-- n / 65536
abbrev over_65536 : ℤ → Fraction
over_65536 n = record { numer = n; less = 65535 }

pi_formula-numer : (second : Bool) (k : ℤ) (r : ℕ) (y x x1 : ℤ) → over_65536 (pi_numer second k r y x x1) ≡ pi_formula second k r (whole y) (whole x) (whole x1)
unfolding pi_formula whole plus minus times divided quotient
pi_formula-numer second k r y x x1 = ap over_65536 (sym (ap (λ n. y *ℤ pos 65536 +ℤ n) ones))
  where
    a : ℤ
    a = x *ℤ input_weight second k r

    b : ℤ
    b = x1 *ℤ before_weight second k r

    ones : (a *ℤ pos 1 -ℤ b *ℤ pos 1) *ℤ pos 1 *ℤ pos 1 ≡ a -ℤ b
    ones = times_one _ ∙ times_one _ ∙ ap₂ (λ s t. s -ℤ t) (times_one a) (times_one b)

-- the new state of a controller without limits
pub is_pi_state : (second : Bool) (k : ℤ) (r : ℕ) (y x x1 : ℤ) → saturated_to state_least state_greatest (rounded Near (pi_numer second k r y x x1) (pos 65536)) ≡ kept_state (pi_formula second k r (whole y) (whole x) (whole x1))
unfolding kept_state
is_pi_state second k r y x x1 = ap (λ f. saturated_to state_least state_greatest (rounded_fraction Near f)) (pi_formula-numer second k r y x x1)

-- ---- the lesser and the greater of two

chosen : (c : Bool) (f g : Fraction) {r : ℤ} → (c ≡ true → rounded_fraction Near f ≡ r) → (c ≡ false → rounded_fraction Near g ≡ r) → rounded_fraction Near (if c then f else g) ≡ r
chosen true f g h k = h refl
chosen false f g h k = k refl

-- n / 65536 that is a whole number
rounded_exact : (z n : ℤ) → n ≡ z *ℤ pos 65536 → rounded Near z (pos 1) ≡ rounded Near n (pos 65536)
rounded_exact z n e = rounded_by_one Near z ∙ sym (rounded-*ℤ Near z (pos 65536) (record { le = tt })) ∙ ap (λ m. rounded Near m (pos 65536)) (sym e)

-- the lesser of a whole number and n / 65536
held_below : (b n : ℤ) → rounded_fraction Near (lesser (whole b) (over_65536 n)) ≡ rounded Near (int_min (b *ℤ pos 65536) n) (pos 65536)
unfolding lesser whole
held_below b n = chosen (int_le (b *ℤ pos 65536) (n *ℤ pos 1)) (whole b) (over_65536 n)
    (λ e. rounded_exact b _ (omega (arith, ints, clamps, e)))
    (λ e. ap (λ m. rounded Near m (pos 65536)) (omega (arith, ints, clamps, e)))

-- the lesser of two whole numbers, in 1/65536
held_whole : (b a : ℤ) → rounded_fraction Near (lesser (whole b) (whole a)) ≡ rounded Near (int_min (b *ℤ pos 65536) (a *ℤ pos 65536)) (pos 65536)
unfolding lesser whole
held_whole b a = chosen (int_le (b *ℤ pos 1) (a *ℤ pos 1)) (whole b) (whole a)
    (λ e. rounded_exact b _ (omega (arith, ints, clamps, e)))
    (λ e. rounded_exact a _ (omega (arith, ints, clamps, e)))

held_chosen : (c : Bool) (b f g : Fraction) {r : ℤ} → (c ≡ true → rounded_fraction Near (lesser b f) ≡ r) → (c ≡ false → rounded_fraction Near (lesser b g) ≡ r) → rounded_fraction Near (lesser b (if c then f else g)) ≡ r
held_chosen true b f g h k = h refl
held_chosen false b f g h k = k refl

-- n / 65536 between two whole numbers
held_between : (a b n : ℤ) → rounded_fraction Near (lesser (whole b) (greater (whole a) (over_65536 n))) ≡ rounded Near (int_min (b *ℤ pos 65536) (int_max (a *ℤ pos 65536) n)) (pos 65536)
unfolding greater whole
held_between a b n = held_chosen (int_le (a *ℤ pos 65536) (n *ℤ pos 1)) (whole b) (over_65536 n) (whole a)
    (λ e. held_below b n ∙ ap (λ m. rounded Near (int_min (b *ℤ pos 65536) m) (pos 65536)) (omega (arith, ints, clamps, e)))
    (λ e. held_whole b a ∙ ap (λ m. rounded Near (int_min (b *ℤ pos 65536) m) (pos 65536)) (omega (arith, ints, clamps, e)))

-- a limit in 1/65536 of a state
limit_in_parts : (z : ℤ) → z *ℤ pos 4294967296 ≡ z *ℤ pos 65536 *ℤ pos 65536
limit_in_parts z = omega (arith, ints)

-- the new state of a controller with limits
pub is_limited_state : (lo hi : ℤ) (second : Bool) (k : ℤ) (r : ℕ) (y x x1 : ℤ) → saturated_to state_least state_greatest (rounded Near (int_min (hi *ℤ pos 4294967296) (int_max (lo *ℤ pos 4294967296) (pi_numer second k r y x x1))) (pos 65536)) ≡ kept_state (limited_formula lo hi (pi_formula second k r (whole y) (whole x) (whole x1)))
unfolding kept_state limited_formula
is_limited_state lo hi second k r y x x1 =
    let n = pi_numer second k r y x x1 in
    ap₂ (λ h l. saturated_to state_least state_greatest (rounded Near (int_min h (int_max l n)) (pos 65536))) (limit_in_parts hi) (limit_in_parts lo)
    ∙ ap (saturated_to state_least state_greatest) (sym (held_between (lo *ℤ pos 65536) (hi *ℤ pos 65536) n))
    ∙ ap (λ f. saturated_to state_least state_greatest (rounded_fraction Near (lesser (whole (hi *ℤ pos 65536)) (greater (whole (lo *ℤ pos 65536)) f)))) (pi_formula-numer second k r y x x1)

-- ---- ramps

plus-whole : (a b : ℤ) → plus (whole a) (whole b) ≡ whole (a +ℤ b)
unfolding plus whole
plus-whole a b = ap whole (ap₂ (λ s t. s +ℤ t) (times_one a) (times_one b))

minus-whole : (a b : ℤ) → minus (whole a) (whole b) ≡ whole (a -ℤ b)
unfolding minus whole
minus-whole a b = ap whole (ap₂ (λ s t. s -ℤ t) (times_one a) (times_one b))

times-whole : (a b : ℤ) → times (whole a) (whole b) ≡ whole (a *ℤ b)
unfolding times whole
times-whole a b = refl

-- the lesser of two whole numbers, and a whole number between two others
least_whole : (b a : ℤ) → rounded_fraction Near (lesser (whole b) (whole a)) ≡ int_min b a
unfolding lesser whole
least_whole b a = chosen (int_le (b *ℤ pos 1) (a *ℤ pos 1)) (whole b) (whole a)
    (λ e. rounded_by_one Near b ∙ omega (arith, ints, clamps, e))
    (λ e. rounded_by_one Near a ∙ omega (arith, ints, clamps, e))

whole_between : (a b n : ℤ) → rounded_fraction Near (lesser (whole b) (greater (whole a) (whole n))) ≡ int_min b (int_max a n)
unfolding greater whole
whole_between a b n = held_chosen (int_le (a *ℤ pos 1) (n *ℤ pos 1)) (whole b) (whole n) (whole a)
    (λ e. least_whole b n ∙ ap (int_min b) (omega (arith, ints, clamps, e)))
    (λ e. least_whole b a ∙ ap (int_min b) (omega (arith, ints, clamps, e)))

-- the new state of a ramp
pub is_ramp_state : (up down : ℕ) (y x : ℤ) → saturated_to state_least state_greatest (int_min (y +ℤ pos up) (int_max (y -ℤ pos down) (x *ℤ pos 65536))) ≡ kept_state (ramp_formula up down (whole y) (whole x))
unfolding kept_state ramp_formula
is_ramp_state up down y x =
    ap (saturated_to state_least state_greatest) (sym (whole_between (y -ℤ pos down) (y +ℤ pos up) (x *ℤ pos 65536)))
    ∙ ap (λ f. saturated_to state_least state_greatest (rounded_fraction Near f))
    (ap₂ lesser (sym (plus-whole y (pos up))) (ap₂ greater (sym (minus-whole y (pos down))) (sym (times-whole x (pos 65536)))))
