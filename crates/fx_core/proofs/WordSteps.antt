-- Sums, differences and products of two numbers of limited size, as the words of any width give them: none goes past
-- an end.
use Rattle.std.proofs.Common.{◌≡◌, ℕ, ◌+◌, ◌*◌, ◌<◌, ◌≤◌, ◌^◌, ℤ, ◌+ℤ◌, ◌-ℤ◌, ◌*ℤ◌, ◌∙◌, ap, ap₂, arith, mul-le-mul, mul-le-mul_left, to_z, of_z, FitsSigned}
use Rattle.std.specs.Prelude.{unsigned_abs}
use Rattle.std.proofs.lemmas.Int.{ints, to_z-of_z, fits_signed_from_abs, unsigned_abs-mul}
use mir.Syntax.{Width}
use mir.Val.{hbits}

-- a number as a word that was passed
abbrev pub word_of : Width → ℤ → ℤ
word_of w z = to_z w (of_z w z)

-- a number of limited size is its own word
pub plain : (w : Width) (n : ℤ) → unsigned_abs n < 2 ^ hbits w → word_of w n ≡ n
plain w n h = to_z-of_z w n (fits_signed_from_abs w n h)

-- what is known of a step whose exact result is below a limit
pub record IsStep (w : Width) (z exact : ℤ) (limit : ℕ) : Type 0 where
  pub fits : FitsSigned w z
  pub value : word_of w z ≡ exact
  pub size : unsigned_abs (word_of w z) < limit

step : (w : Width) (z exact : ℤ) (limit : ℕ) → z ≡ exact → unsigned_abs exact < limit → limit ≤ 2 ^ hbits w → IsStep w z exact limit
step w z exact limit e small room =
    let fits = fits_signed_from_abs w exact (omega (arith, small, room)) in
    let value : word_of w z ≡ exact = ap (word_of w) e ∙ to_z-of_z w exact fits in
    record { fits = rw e fits; value = value; size = rw value small }

pub sum_step : (w : Width) (s t : ℤ) (a b : ℕ) → unsigned_abs s < a → unsigned_abs t < b → a + b ≤ 2 ^ hbits w → IsStep w (word_of w s +ℤ word_of w t) (s +ℤ t) (a + b)
sum_step w s t a b h k room =
    let e = ap₂ (λ u v. u +ℤ v) (plain w s (omega (arith, h, room))) (plain w t (omega (arith, k, room))) in
    step w _ _ _ e (omega (arith, ints, h, k)) room

pub difference_step : (w : Width) (s t : ℤ) (a b : ℕ) → unsigned_abs s < a → unsigned_abs t < b → a + b ≤ 2 ^ hbits w → IsStep w (word_of w s -ℤ word_of w t) (s -ℤ t) (a + b)
difference_step w s t a b h k room =
    let e = ap₂ (λ u v. u -ℤ v) (plain w s (omega (arith, h, room))) (plain w t (omega (arith, k, room))) in
    step w _ _ _ e (omega (arith, ints, h, k)) room

-- the limits of the factors are a - 1 and b
pub product_step : (w : Width) (n f : ℤ) (a b : ℕ) → unsigned_abs n < a → unsigned_abs f ≤ b → 0 < b → a * b < 2 ^ hbits w → IsStep w (word_of w n *ℤ word_of w f) (n *ℤ f) (a * b)
product_step w n f a b h k some room =
    let first : a * 1 ≤ a * b = mul-le-mul_left a some in
    let second : 1 * b ≤ a * b = mul-le-mul {m₂ = b} (omega (arith, h)) (omega arith) in
    let e = ap₂ (λ u v. u *ℤ v) (plain w n (omega (arith, h, first, room))) (plain w f (omega (arith, k, second, room))) in
    let most : (1 + unsigned_abs n) * b ≤ a * b = mul-le-mul {m₂ = b} (omega (arith, h)) (omega arith) in
    let reach : unsigned_abs n * unsigned_abs f ≤ unsigned_abs n * b = mul-le-mul_left (unsigned_abs n) k in
    step w _ _ _ e (rw (unsigned_abs-mul n f) (omega (arith, most, reach, some))) (omega (arith, room))
