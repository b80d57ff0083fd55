-- The bits of a word, from bit 0, the lowest.
use Rattle.std.specs.Prelude.{◌≡◌, ◌<◌, ℕ, zero, suc, ◌+◌, ◌/◌, ◌%◌, ◌^◌, ◌==◌, ℤ, pos, negsuc, Bool, true, false, not, ◌&&◌, ◌||◌, nat_lt, if◌then◌else◌}
use Rattle.fx_core.specs.Types.{width_of}
use Rattle.fx_core.specs.declared.word_type.Ty.{Ty}

-- bit j of a natural number in binary
abbrev pub is_set : ℕ → ℕ → Bool
is_set n j = n / 2 ^ j % 2 == 1

-- bit j of a whole number in two's complement
abbrev pub bit : ℤ → ℕ → Bool
bit (pos n) j = is_set n j
bit (negsuc n) j = not (is_set n j)

-- bit j of a word of the type: one past the width reads 0
abbrev pub bit_of : Ty → ℤ → ℕ → Bool
bit_of t w j = nat_lt j (width_of t) && bit w j

-- the number with these bits below n, and no others: the sum of their powers of two
abbrev pub number_of : ℕ → (ℕ → Bool) → ℕ
number_of zero bits = 0
number_of (suc n) bits = number_of n bits + (if bits n then 2 ^ n else 0)

-- the word of an unsigned type with these bits; those past the width have no effect
abbrev pub word_of : Ty → (ℕ → Bool) → ℤ
word_of t bits = pos (number_of (width_of t) bits)

-- each number below n passes
abbrev pub each_below : ℕ → (ℕ → Bool) → Bool
each_below zero test = true
each_below (suc n) test = each_below n test && test n

-- at least one number below n passes
abbrev pub some_below : ℕ → (ℕ → Bool) → Bool
some_below zero test = false
some_below (suc n) test = some_below n test || test n

-- how many numbers below n pass
abbrev pub count_below : ℕ → (ℕ → Bool) → ℕ
count_below zero test = 0
count_below (suc n) test = count_below n test + (if test n then 1 else 0)

-- ---- for private functions' clauses alone

-- the native word n has the bits of v, a word of the unsigned type t
abbrev pub IsPattern : Ty → ℤ → ℕ → Type 0
IsPattern t v n = (pos n ≡ v) × (n < 2 ^ width_of t)

-- the bits of n below the width are these
abbrev pub HasBits : ℕ → ℕ → (ℕ → Bool) → Type 0
HasBits width n bits = (j : ℕ) → j < width → is_set n j ≡ bits j
