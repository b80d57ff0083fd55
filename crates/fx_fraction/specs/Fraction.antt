-- Fractions of whole numbers. They are never reduced: two that have one value may be two records, and `Same` says that their values agree.
use Rattle.std.specs.Prelude.{◌≡◌, ℕ, zero, suc, pred, ◌*◌, ◌-◌, ◌≤◌, Bool, ◌==◌, if◌then◌else◌, ℤ, pos, negsuc, ◌+ℤ◌, ◌-ℤ◌, ◌*ℤ◌, neg_ℤ, ◌≤ℤ◌, ◌<ℤ◌, unsigned_abs, int_le}

-- a numerator over a denominator; the denominator is kept less one, so that each record is a fraction
pub record Fraction : Type 0 where
  pub numer : ℤ
  pub less : ℕ

-- the denominator, which is at least 1
abbrev pub denom : Fraction → ℕ
denom f = suc f.less

-- the whole number z
unfoldable pub whole : ℤ → Fraction
whole z = record { numer = z; less = 0 }

-- z / d, for d at least 1
unfoldable pub over : ℤ → ℕ → Fraction
over z d = record { numer = z; less = d - 1 }

-- f + g
unfoldable pub plus : Fraction → Fraction → Fraction
plus f g = record {
  numer = f.numer *ℤ pos (denom g) +ℤ g.numer *ℤ pos (denom f);
  less = pred (denom f * denom g);
}

-- f - g
unfoldable pub minus : Fraction → Fraction → Fraction
minus f g = record {
  numer = f.numer *ℤ pos (denom g) -ℤ g.numer *ℤ pos (denom f);
  less = pred (denom f * denom g);
}

-- f * g
unfoldable pub times : Fraction → Fraction → Fraction
times f g = record { numer = f.numer *ℤ g.numer; less = pred (denom f * denom g) }

-- top / bottom for whole numbers: 0 where the bottom is 0, and the sign goes to the numerator
unfoldable pub quotient : ℤ → ℤ → Fraction
quotient top (pos zero) = record { numer = pos 0; less = 0 }
quotient top (pos (suc n)) = record { numer = top; less = n }
quotient top (negsuc n) = record { numer = neg_ℤ top; less = n }

-- f / g, or 0 where g is 0
unfoldable pub divided : Fraction → Fraction → Fraction
divided f g = quotient (f.numer *ℤ pos (denom g)) (g.numer *ℤ pos (denom f))

-- the smaller of the two, f where they are the same
unfoldable pub lesser : Fraction → Fraction → Fraction
lesser f g = if int_le (f.numer *ℤ pos (denom g)) (g.numer *ℤ pos (denom f)) then f else g

-- the larger of the two, g where they are the same
unfoldable pub greater : Fraction → Fraction → Fraction
greater f g = if int_le (f.numer *ℤ pos (denom g)) (g.numer *ℤ pos (denom f)) then g else f

-- f without its sign
unfoldable pub absolute : Fraction → Fraction
absolute f = record { numer = pos (unsigned_abs f.numer); less = f.less }

-- how far f and g are apart
unfoldable pub distance : Fraction → Fraction → Fraction
distance f g = absolute (minus f g)

-- whether f is 0
unfoldable pub is_zero : Fraction → Bool
is_zero f = unsigned_abs f.numer == 0

-- f and g have one value
abbrev pub Same : Fraction → Fraction → Type 0
Same f g = f.numer *ℤ pos (denom g) ≡ g.numer *ℤ pos (denom f)

-- f is at most g
abbrev pub AtMost : Fraction → Fraction → Type 0
AtMost f g = (f.numer *ℤ pos (denom g)) ≤ℤ (g.numer *ℤ pos (denom f))

-- f is below g
abbrev pub Below : Fraction → Fraction → Type 0
Below f g = (f.numer *ℤ pos (denom g)) <ℤ (g.numer *ℤ pos (denom f))

-- f is z / d, for d at least 1
pub record Is (f : Fraction) (d : ℕ) (z : ℤ) : Type 0 where
  pub positive : 1 ≤ d
  pub equal : f.numer *ℤ pos d ≡ z *ℤ pos (denom f)
