-- The formulas on fractions as quotients of whole numbers.
use Rattle.std.proofs.Common.{◌≡◌, ℕ, ℤ, pos, ◌+ℤ◌, ◌-ℤ◌, ◌*ℤ◌, Bool, true, false, sym, ap, ap₂, ◌∙◌, arith}
use Rattle.std.specs.Prelude.{if◌then◌else◌}
use Rattle.std.proofs.lemmas.Int.{ints}
use Rattle.fx_fraction.specs.Fraction.{Fraction, whole, plus, minus, times, divided, quotient}
use Rattle.fx_core.specs.declared.quotient.Mode.TheVariants.{Near}
use Rattle.fx_core.specs.declared.word_type.Ty.{Ty}
use Rattle.fx_core.specs.Rounding.{rounded}
use Rattle.fx_core.specs.Types.{saturated, saturated_to}
use Rattle.efx_filters.specs.Formulas.{drive_weight, gain_formula, lag_formula, state_greatest, state_least, value_formula}
use Rattle.efx_filters.specs.States.{Dt1Data, GainData, dt1_drive, gain_value, next_state, state_value}

times_one : (n : ℤ) → n *ℤ pos 1 ≡ n
times_one n = omega (arith, ints)

-- the value of a proportional block
pub is_gain : (gain : GainData) (x : ℤ) → saturated gain.o (rounded Near (x *ℤ gain.k) (pos 65536)) ≡ gain_value gain x
unfolding gain_value gain_formula whole times divided quotient
is_gain gain x = ap (λ n. saturated gain.o (rounded Near n (pos 65536))) (sym (times_one (x *ℤ gain.k)))

-- the new state of a lag
pub is_next_state : (teq : ℕ) (k y drive : ℤ) → saturated_to state_least state_greatest (rounded Near (y *ℤ pos teq +ℤ drive *ℤ drive_weight teq k) (pos 65536)) ≡ next_state teq k y (whole drive)
unfolding next_state lag_formula whole plus times divided quotient
is_next_state teq k y drive = ap (λ n. saturated_to state_least state_greatest (rounded Near n (pos 65536))) (sym ones)
  where
    a : ℤ
    a = y *ℤ pos teq

    b : ℤ
    b = drive *ℤ drive_weight teq k

    ones : (a *ℤ pos 1 +ℤ b *ℤ pos 1) *ℤ pos 1 ≡ a +ℤ b
    ones = times_one (a *ℤ pos 1 +ℤ b *ℤ pos 1) ∙ ap₂ (λ s t. s +ℤ t) (times_one a) (times_one b)

-- the value that a state gives
pub is_state_value : (o : Ty) (y : ℤ) → saturated o (rounded Near y (pos 65536)) ≡ state_value o y
unfolding state_value value_formula whole divided quotient
is_state_value o y = ap (λ n. saturated o (rounded Near n (pos 65536))) (sym (times_one y))

-- a difference of whole numbers
whole-minus : (a b : ℤ) → whole (a -ℤ b) ≡ minus (whole a) (whole b)
unfolding whole minus
whole-minus a b = ap (λ n. record { numer = n; less = 0 }) (sym (ap₂ (λ s t. s -ℤ t) (times_one a) (times_one b)))

-- what drives a differentiating lag
pub is_drive : (lag : Dt1Data) (x : ℤ) → whole (if lag.second then x -ℤ lag.x1 else (lag.x1 -ℤ lag.x2)) ≡ dt1_drive lag x
is_drive lag x = chosen lag.second _ _ (whole-minus x lag.x1) (whole-minus lag.x1 lag.x2)
  where
    chosen : (second : Bool) (a b : ℤ) {f g : Fraction} → whole a ≡ f → whole b ≡ g → whole (if second then a else b) ≡ (if second then f else g)
    chosen true a b e e' = e
    chosen false a b e e' = e'
