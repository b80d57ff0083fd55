-- The formulas of the controllers, on fractions. A state Y, a gain k and the steps of a ramp are raw counts with 16 fractional
-- bits, limits are counts of the output, and the share r that a controller integrates in a row is in 1/65536.
use Rattle.std.specs.Prelude.{ℕ, ◌+◌, ◌-◌, Bool, if◌then◌else◌, ℤ, pos, ◌*ℤ◌}
use Rattle.fx_fraction.specs.Fraction.{Fraction, whole, plus, minus, times, lesser, greater}
use Rattle.efx_filters.specs.Formulas.{counts_of}

-- the weight of the input in 1/65536 of k: 65536 by type 1 (second = false), and 65536 + r by type 2 (second = true)
abbrev pub input_weight : Bool → ℤ → ℕ → ℤ
input_weight second k r = if second then pos (65536 + r) *ℤ k else pos 65536 *ℤ k

-- that of the input of the row before: 65536 - r by type 1, and 65536 by type 2
abbrev pub before_weight : Bool → ℤ → ℕ → ℤ
before_weight second k r = if second then pos 65536 *ℤ k else pos (65536 - r) *ℤ k

-- the new state of a PI controller, from its old one, the input x and the one before, x1. By type 1 it is
-- old + k * x - k * (65536 - r) * x1 / 65536, and by type 2 old + k * (65536 + r) * x / 65536 - k * x1
unfoldable pub pi_formula : Bool → ℤ → ℕ → Fraction → Fraction → Fraction → Fraction
pi_formula second k r old x x1 =
    plus old (counts_of (minus (times x (whole (input_weight second k r))) (times x1 (whole (before_weight second k r)))))

-- a new state held between the limits: min(hi * 65536, max(lo * 65536, state))
unfoldable pub limited_formula : ℤ → ℤ → Fraction → Fraction
limited_formula lo hi state = lesser (whole (hi *ℤ pos 65536)) (greater (whole (lo *ℤ pos 65536)) state)

-- the new state of a ramp: the input, but at most `up` above the old state and at most `down` below it
unfoldable pub ramp_formula : ℕ → ℕ → Fraction → Fraction → Fraction
ramp_formula up down old x = lesser (plus old (whole (pos up))) (greater (minus old (whole (pos down))) (times x (whole (pos 65536))))
