-- The formulas of the filters, on fractions. A state Y and a gain k are raw counts with 16 fractional bits, and the weight
-- teq of an old state is in 1/65536.
use Rattle.std.specs.Prelude.{ℕ, zero, suc, ◌-◌, ℤ, pos, negsuc, ◌*ℤ◌}
use Rattle.fx_fraction.specs.Fraction.{Fraction, whole, plus, times, divided}

-- the least state Y, -2^47
abbrev pub state_least : ℤ
state_least = negsuc 140737488355327

-- the greatest one, 2^47 - 1
abbrev pub state_greatest : ℤ
state_greatest = pos 140737488355327

-- a number with 16 fractional bits, as a number of counts
abbrev pub counts_of : Fraction → Fraction
counts_of f = divided f (whole (pos 65536))

-- the value of a proportional block: k * x / 65536
unfoldable pub gain_formula : ℤ → Fraction → Fraction
gain_formula k x = counts_of (times x (whole k))

-- the weight of what drives a lag: (65536 - teq) * k
abbrev pub drive_weight : ℕ → ℤ → ℤ
drive_weight teq k = pos (65536 - teq) *ℤ k

-- the new state of a lag, from its old state and what drives it: (teq * old + (65536 - teq) * k * drive) / 65536
unfoldable pub lag_formula : ℕ → ℤ → Fraction → Fraction → Fraction
lag_formula teq k old drive = counts_of (plus (times old (whole (pos teq))) (times drive (whole (drive_weight teq k))))

-- the value of a block with a state, from its new state
unfoldable pub value_formula : Fraction → Fraction
value_formula state = counts_of state

-- the sum of the first n values
abbrev pub sum_of : ℕ → (ℕ → Fraction) → Fraction
sum_of zero values = whole (pos 0)
sum_of (suc n) values = plus (sum_of n values) (values n)

-- the mean of the inputs of n rows, where `values ago` is the input so many rows ago
unfoldable pub average_formula : ℕ → (ℕ → Fraction) → Fraction
average_formula n values = divided (sum_of n values) (whole (pos n))
