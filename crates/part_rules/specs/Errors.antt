-- The magnitude and the mignitude of a range, and the errors of products and quotients, in units of 1/65536 of a raw count.
use Rattle.std.specs.Prelude.{ℕ, suc, zero, Bool, ◌&&◌, ◌||◌, ℤ, pos, ◌+ℤ◌, ◌-ℤ◌, ◌*ℤ◌, int_le, unsigned_abs, if◌then◌else◌}
use Rattle.std.specs.Int.{int_min, int_max}
use Rattle.fx_core.specs.Rounding.{least_quotient_above, power}
use Rattle.part_rules.specs.declared.bounds.Bounds.{Bounds}
use Rattle.part_rules.specs.Units.{one_count}

-- the magnitude of a range: the greatest absolute value in it
abbrev pub magnitude : Bounds → ℤ
magnitude b = int_max (pos (unsigned_abs b.lo)) (pos (unsigned_abs b.hi))

-- whether a range holds 0
abbrev pub holds_zero : Bounds → Bool
holds_zero b = int_le b.lo (pos 0) && int_le (pos 0) b.hi

-- the mignitude of a range: the least absolute value in it
abbrev pub mignitude : Bounds → ℤ
mignitude b = if holds_zero b then pos 0 else int_min (pos (unsigned_abs b.lo)) (pos (unsigned_abs b.hi))

-- whether a divisor may be 0: in the machine, where its range holds 0, or as a fraction, where its error reaches to 0
abbrev pub may_be_zero : Bounds → Bool
may_be_zero y = holds_zero y || int_le (one_count *ℤ mignitude y) y.err

-- the error of a product: each error times the magnitude of the other argument's range, and the errors' product, rounded up
unfoldable pub product_error : Bounds → Bounds → ℤ
product_error x y = magnitude x *ℤ y.err +ℤ magnitude y *ℤ x.err +ℤ least_quotient_above (x.err *ℤ y.err) one_count

-- the error of what is divided by two to a power: rounded up and with one rounding more; by 1 nothing is rounded
unfoldable pub shifted_error : ℕ → ℤ → ℤ
shifted_error zero err = err
shifted_error (suc k) err = least_quotient_above err (power (suc k)) +ℤ one_count

-- how far apart the two cross products of a quotient may be: that of the machine's dividend with the exact divisor and that
-- of the exact dividend with the machine's divisor, where `top` is the dividend's magnitude and `err` its error
abbrev pub cross_error : ℤ → ℤ → Bounds → ℤ
cross_error top err y = top *ℤ y.err +ℤ mignitude y *ℤ err

-- the product of the machine's divisor and the exact one, each where it is nearest to 0
abbrev pub least_divisors : Bounds → ℤ
least_divisors y = mignitude y *ℤ (one_count *ℤ mignitude y -ℤ y.err)

-- the error of a quotient whose divisor is multiplied by two to the power k, from the magnitude and the error of the
-- dividend: rounded up and with one rounding more
unfoldable pub quotient_error : ℕ → ℤ → ℤ → Bounds → ℤ
quotient_error k top err y = least_quotient_above (one_count *ℤ cross_error top err y) (least_divisors y *ℤ power k) +ℤ one_count
