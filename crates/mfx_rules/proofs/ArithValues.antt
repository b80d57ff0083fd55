-- The formulas of arithmetic at whole numbers, by the integers' own words, and where these lie between the ends of ranges.
use Rattle.std.specs.Prelude.{◌≡◌, ◌≤◌, int_div, ℤ, pos, ◌+ℤ◌, ◌-ℤ◌, ◌*ℤ◌, ◌≤ℤ◌, unsigned_abs}
use Rattle.std.specs.Int.{int_min, int_max}
use Rattle.std.proofs.Common.{ap, ap₂, ◌∙◌, arith, inl, inr}
use Rattle.std.proofs.lemmas.Int.{ints, clamps}
use Rattle.fx_fraction.specs.Fraction.{Fraction, whole, plus, minus, divided, lesser, greater, absolute}
use Rattle.fx_fraction.proofs.WholeNumbers.{int_mul_comm, int_lt_or_le, int_le_of-lt, int_le-mul, int_le-mul_reversed}
use Rattle.fx_core.specs.declared.quotient.Mode.TheVariants.{Zero}
use Rattle.fx_core.specs.Values.{rounded_fraction}
use Rattle.mfx_arith.proofs.WholeNumbers.{plus-whole, minus-whole, absolute-whole, lesser-whole, greater-whole, rounded-whole as whole-rounded, rounded-divided as whole-rounded-divided}
use Rattle.part_rules.proofs.CornerHulls.{LiesBetween}

-- ---- the formulas at whole numbers

pub abs_diff-whole : (x y : ℤ) → absolute (minus (whole x) (whole y)) ≡ whole (pos (unsigned_abs (x -ℤ y)))
abs_diff-whole x y = ap absolute (minus-whole x y) ∙ absolute-whole (x -ℤ y)

pub limit-whole : (x lo hi : ℤ) → lesser (whole hi) (greater (whole lo) (whole x)) ≡ whole (int_min hi (int_max lo x))
limit-whole x lo hi = ap (lesser (whole hi)) (greater-whole lo x) ∙ lesser-whole hi (int_max lo x)

pub rate_limiter-whole : (new old d : ℤ) → lesser (plus (whole old) (whole d)) (greater (minus (whole old) (whole d)) (whole new)) ≡ whole (int_min (old +ℤ d) (int_max (old -ℤ d) new))
rate_limiter-whole new old d = ap₂ lesser (plus-whole old d) (ap (λ f. greater f (whole new)) (minus-whole old d) ∙ greater-whole (old -ℤ d) new) ∙ lesser-whole (old +ℤ d) (int_max (old -ℤ d) new)

-- a whole number is its own rounding
pub rounded-whole : (f : Fraction) (x : ℤ) → f ≡ whole x → rounded_fraction Zero f ≡ x
rounded-whole f x e = ap (rounded_fraction Zero) e ∙ whole-rounded x

-- a dividend that is a whole number over another one
pub rounded-divided : (f : Fraction) (n d : ℤ) → f ≡ whole n → 1 ≤ unsigned_abs d → rounded_fraction Zero (divided f (whole d)) ≡ int_div n d
rounded-divided f n d e h = ap (λ t. rounded_fraction Zero (divided t (whole d))) e ∙ whole-rounded-divided n d (λ zero. absurd (omega (arith, h, ap unsigned_abs zero)))

-- ---- between the ends of ranges

pub sum_first : (y a b : ℤ) → LiesBetween (λ x. x +ℤ y) a b
sum_first y a b x i = inl (record { low = omega (arith, ints); high = omega (arith, ints) })

pub sum_second : (x c d : ℤ) → LiesBetween (λ y. x +ℤ y) c d
sum_second x c d y i = inl (record { low = omega (arith, ints); high = omega (arith, ints) })

pub difference_first : (y a b : ℤ) → LiesBetween (λ x. x -ℤ y) a b
difference_first y a b x i = inl (record { low = omega (arith, ints); high = omega (arith, ints) })

pub difference_second : (x c d : ℤ) → LiesBetween (λ y. x -ℤ y) c d
difference_second x c d y i = inr (record { low = omega (arith, ints); high = omega (arith, ints) })

pub lesser_first : (y a b : ℤ) → LiesBetween (λ x. int_min x y) a b
lesser_first y a b x i = inl (record { low = omega (arith, ints, clamps); high = omega (arith, ints, clamps) })

pub lesser_second : (x c d : ℤ) → LiesBetween (int_min x) c d
lesser_second x c d y i = inl (record { low = omega (arith, ints, clamps); high = omega (arith, ints, clamps) })

pub greater_first : (y a b : ℤ) → LiesBetween (λ x. int_max x y) a b
greater_first y a b x i = inl (record { low = omega (arith, ints, clamps); high = omega (arith, ints, clamps) })

pub greater_second : (x c d : ℤ) → LiesBetween (int_max x) c d
greater_second x c d y i = inl (record { low = omega (arith, ints, clamps); high = omega (arith, ints, clamps) })

pub limit_first : (lo hi a b : ℤ) → LiesBetween (λ x. int_min hi (int_max lo x)) a b
limit_first lo hi a b x i = inl (record { low = omega (arith, ints, clamps); high = omega (arith, ints, clamps) })

pub limit_second : (x hi a b : ℤ) → LiesBetween (λ lo. int_min hi (int_max lo x)) a b
limit_second x hi a b lo i = inl (record { low = omega (arith, ints, clamps); high = omega (arith, ints, clamps) })

pub limit_third : (x lo a b : ℤ) → LiesBetween (λ hi. int_min hi (int_max lo x)) a b
limit_third x lo a b hi i = inl (record { low = omega (arith, ints, clamps); high = omega (arith, ints, clamps) })

pub rate_limiter_first : (old d a b : ℤ) → LiesBetween (λ new. int_min (old +ℤ d) (int_max (old -ℤ d) new)) a b
rate_limiter_first old d a b new i = inl (record { low = omega (arith, ints, clamps); high = omega (arith, ints, clamps) })

pub rate_limiter_second : (new d a b : ℤ) → LiesBetween (λ old. int_min (old +ℤ d) (int_max (old -ℤ d) new)) a b
rate_limiter_second new d a b old i = inl (record { low = omega (arith, ints, clamps); high = omega (arith, ints, clamps) })

-- a step that isn't negative moves the value up to a greater new one, and down to a lesser
pub rate_limiter_third : (new old a b : ℤ) → pos 0 ≤ℤ a → LiesBetween (λ d. int_min (old +ℤ d) (int_max (old -ℤ d) new)) a b
rate_limiter_third new old a b h d i =
    elim (int_lt_or_le new old) [
      | inl below ↦ inr (record { low = omega (arith, ints, clamps); high = omega (arith, ints, clamps) })
      | inr above ↦ inl (record { low = omega (arith, ints, clamps); high = omega (arith, ints, clamps) })
    ]

-- a product grows with a factor whose other isn't negative, and falls where it is
pub product_first : (y a b : ℤ) → LiesBetween (λ x. x *ℤ y) a b
product_first y a b x i =
    elim (int_lt_or_le (pos 0) y) [
      | inl positive ↦ inl (record { low = int_le-mul a x y i.low (int_le_of-lt _ _ positive); high = int_le-mul x b y i.high (int_le_of-lt _ _ positive) })
      | inr negative ↦ inr (record { low = int_le-mul_reversed x b y i.high negative; high = int_le-mul_reversed a x y i.low negative })
    ]

pub product_second : (x c d : ℤ) → LiesBetween (λ y. x *ℤ y) c d
product_second x c d y i = rw (int_mul_comm x c, int_mul_comm x y, int_mul_comm x d) (product_first x c d y i)
