-- Quotients of whole numbers, rounded to a whole number. The divisor d is at least 1 throughout.
use Rattle.std.specs.Prelude.{ℕ, suc, ℤ, pos, negsuc, neg_ℤ, ◌/◌, ◌^◌, ◌+ℤ◌, ◌-ℤ◌, ◌*ℤ◌, ◌≤ℤ◌, ◌<ℤ◌, unsigned_abs, int_div}
use Rattle.fx_core.specs.declared.quotient.Mode.{Mode}
use Rattle.fx_core.specs.declared.quotient.Mode.TheVariants.{Zero, Floor, Near}

-- r is n / d rounded toward zero: for n of at least 0 not above n / d, while the number after it is; for n of at most 0 not
-- below n / d, while the number before it is
abbrev pub RoundsTowardZero : ℤ → ℤ → ℤ → Type 0
RoundsTowardZero n d r =
    (pos 0 ≤ℤ n → ((r *ℤ d) ≤ℤ n) × (n <ℤ ((r +ℤ pos 1) *ℤ d)))
    × (n ≤ℤ pos 0 → (n ≤ℤ (r *ℤ d)) × (((r -ℤ pos 1) *ℤ d) <ℤ n))

-- r is n / d rounded downward: not above n / d, while the number after it is
abbrev pub RoundsDownward : ℤ → ℤ → ℤ → Type 0
RoundsDownward n d r = ((r *ℤ d) ≤ℤ n) × (n <ℤ ((r +ℤ pos 1) *ℤ d))

-- r is n / d rounded to the nearest: at most a half away, and a half goes upward
abbrev pub RoundsToNearest : ℤ → ℤ → ℤ → Type 0
RoundsToNearest n d r = ((pos 2 *ℤ n -ℤ d) <ℤ (pos 2 *ℤ (r *ℤ d))) × ((pos 2 *ℤ (r *ℤ d)) ≤ℤ (pos 2 *ℤ n +ℤ d))

-- r is n / d rounded as the mode says
abbrev pub Rounds : Mode → ℤ → ℤ → ℤ → Type 0
Rounds Zero = RoundsTowardZero
Rounds Floor = RoundsDownward
Rounds Near = RoundsToNearest

-- n / d rounded toward minus infinity
abbrev pub floor_quotient : ℤ → ℤ → ℤ
floor_quotient (pos n) d = pos (n / unsigned_abs d)
floor_quotient (negsuc n) d = negsuc (n / unsigned_abs d)

-- n / d rounded to a whole number: the quotient toward zero, the one toward minus infinity, and n / d plus a half toward minus infinity
unfoldable pub rounded : Mode → ℤ → ℤ → ℤ
rounded Zero n d = int_div n d
rounded Floor n d = floor_quotient n d
rounded Near n d = floor_quotient (pos 2 *ℤ n +ℤ d) (pos 2 *ℤ d)

-- two to the power k
abbrev pub power : ℕ → ℤ
power k = pos (2 ^ k)

-- n times two to the power e, rounded to a whole number
unfoldable pub shifted_rounded : Mode → ℤ → ℤ → ℤ
shifted_rounded m n (pos e) = n *ℤ power e
shifted_rounded m n (negsuc e) = rounded m n (power (suc e))

-- r is n times two to the power e, rounded to a whole number
abbrev pub ShiftRounds : Mode → ℤ → ℤ → ℤ → Type 0
ShiftRounds m n (pos e) r = Rounds m (n *ℤ power e) (pos 1) r
ShiftRounds m n (negsuc e) r = Rounds m n (power (suc e)) r

-- the least whole number that is not below n / d: n / d rounded toward plus infinity
unfoldable pub least_quotient_above : ℤ → ℤ → ℤ
least_quotient_above n d = neg_ℤ (floor_quotient (neg_ℤ n) d)

-- r is that number: not below n / d, while the number before it is
abbrev pub IsLeastQuotientAbove : ℤ → ℤ → ℤ → Type 0
IsLeastQuotientAbove n d r = (n ≤ℤ (r *ℤ d)) × (((r -ℤ pos 1) *ℤ d) <ℤ n)
