-- What the rules of the filters give, worked out: each computes.
use Rattle.std.specs.Prelude.{◌≡◌, ℤ, pos, negsuc, refl}
use Rattle.fx_fraction.specs.Fraction.{whole, minus, plus, times, divided, quotient}
use Rattle.fx_core.specs.Arguments.{two, three}
use Rattle.fx_core.specs.Rounding.{rounded, least_quotient_above}
use Rattle.part_rules.specs.declared.bounds.Bounds.{Bounds}
use Rattle.efx_filters.specs.Formulas.{gain_formula, lag_formula, value_formula}
use Rattle.efx_rules.specs.FilterRules.{gain_rounded, gain_error, gain_bounds, lag_rounded, lag_error, lag_bounds, difference_rounded, difference_bounds, value_rounded, value_bounds, average_bounds}

abbrev bounds : ℤ → ℤ → ℤ → Bounds
bounds lo hi err = record { lo = lo; hi = hi; err = err }

-- ---- gains

-- a half, of 0..100: one rounding
half : gain_bounds (pos 32768) (λ p. bounds (pos 0) (pos 100) (pos 0)) ≡ bounds (pos 0) (pos 50) (pos 32768)
unfolding gain_bounds gain_rounded gain_error gain_formula whole times divided quotient rounded least_quotient_above
half = refl

-- two, of 0..100: no rounding
twice : gain_bounds (pos 131072) (λ p. bounds (pos 0) (pos 100) (pos 7)) ≡ bounds (pos 0) (pos 200) (pos 14)
unfolding gain_bounds gain_rounded gain_error gain_formula whole times divided quotient rounded least_quotient_above
twice = refl

-- less than nothing turns the range round
turned : gain_bounds (negsuc 32767) (λ p. bounds (negsuc 9) (pos 100) (pos 1)) ≡ bounds (negsuc 49) (pos 5) (pos 32769)
unfolding gain_bounds gain_rounded gain_error gain_formula whole times divided quotient rounded least_quotient_above
turned = refl

-- ---- lags

-- the old state and the input weigh the same, the gain is 1, and the input is -1000..1000
input : Bounds
input = bounds (negsuc 999) (pos 1000) (pos 0)

state : Bounds
state = bounds (negsuc 65535999) (pos 65536000) (pos 65536)

-- the bounds of the state are kept
state_is_kept : lag_bounds 32768 (pos 65536) (two state input) ≡ state
unfolding input state lag_bounds lag_rounded lag_error lag_formula whole plus times divided quotient rounded least_quotient_above
state_is_kept = refl

-- the value from it
value : value_bounds (λ p. state) ≡ bounds (negsuc 999) (pos 1000) (pos 32769)
unfolding state value_bounds value_rounded value_formula whole divided quotient rounded least_quotient_above
value = refl

-- the difference of two such inputs, from 0: half of it, with half of both errors together and one rounding
difference : difference_bounds 32768 (pos 65536) (three (bounds (pos 0) (pos 0) (pos 0)) (bounds (negsuc 999) (pos 1000) (pos 2)) (bounds (negsuc 999) (pos 1000) (pos 4))) ≡ bounds (negsuc 65535999) (pos 65536000) (pos 229376)
unfolding difference_bounds difference_rounded lag_error lag_formula whole minus plus times divided quotient rounded least_quotient_above
difference = refl

-- ---- averages

mean : average_bounds (two (bounds (pos 0) (pos 10) (pos 3)) (bounds (negsuc 4) (pos 3) (pos 8))) ≡ bounds (negsuc 4) (pos 10) (pos 32776)
unfolding average_bounds
mean = refl
