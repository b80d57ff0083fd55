-- Products of two numbers of limited size, as words give them.
use Rattle.std.proofs.Common.{◌≡◌, ℕ, ◌-◌, ◌*◌, ◌<◌, ◌≤◌, ◌^◌, lit<, lit≤, ℤ, pos, ◌*ℤ◌, ◌∙◌, ap, ap₂, arith, FitsSigned, mul-le-mul}
use Rattle.std.specs.Int.{w64, w128}
use Rattle.std.specs.Prelude.{unsigned_abs}
use Rattle.std.proofs.lemmas.Int.{to_z-of_z, fits_signed_from_abs, unsigned_abs-mul}
use mir.Syntax.{Width}
use mir.Val.{hbits}
use Rattle.fx_core.proofs.WordSteps.{plain, word_of}

-- what is known of a product: its word is exact, and at most the limit in size
pub record IsProduct (w : Width) (z exact : ℤ) (limit : ℕ) : Type 0 where
  pub fits : FitsSigned w z
  pub value : word_of w z ≡ exact
  pub size : unsigned_abs (word_of w z) ≤ limit

-- the factors are given as words s and t of the numbers n and f, which are at most a and b in size
product : (w : Width) (n f s t : ℤ) (a b limit : ℕ) → unsigned_abs n ≤ a → unsigned_abs f ≤ b → word_of w s ≡ n → word_of w t ≡ f → a * b ≤ limit → limit < 2 ^ hbits w → IsProduct w (word_of w s *ℤ word_of w t) (n *ℤ f) limit
product w n f s t a b limit h k e e' most room =
    let reach : unsigned_abs n * unsigned_abs f ≤ a * b = mul-le-mul {n₁ = unsigned_abs n} {m₁ = unsigned_abs f} {n₂ = a} {m₂ = b} h k in
    let size : unsigned_abs (n *ℤ f) ≤ limit = rw (unsigned_abs-mul n f) (omega (arith, reach, most)) in
    let fits = fits_signed_from_abs w (n *ℤ f) (omega (arith, size, room)) in
    let exact = ap₂ (λ u v. u *ℤ v) e e' in
    let value : word_of w (word_of w s *ℤ word_of w t) ≡ n *ℤ f = ap (word_of w) exact ∙ to_z-of_z w _ fits in
    record { fits = rw exact fits; value = value; size = rw value size }

-- the product of an input and a gain
pub gain_product : (x k f : ℤ) → unsigned_abs x < 2 ^ 32 → unsigned_abs k ≤ 2 ^ 31 → f ≡ k → IsProduct w64 (word_of w64 x *ℤ word_of w64 f) (x *ℤ k) (2 ^ 63 - 2 ^ 31)
gain_product x k f few small e =
    let second : word_of w64 f ≡ k = ap (word_of w64) e ∙ plain w64 k (omega (arith, small)) in
    product w64 x k x f (2 ^ 32 - 1) (2 ^ 31) (2 ^ 63 - 2 ^ 31) (omega (arith, few)) small (plain w64 x (omega (arith, few))) second (lit≤ tt) (lit< tt)

-- the product of what a weight leaves and a gain
pub weight_product : (rest : ℕ) (k r f : ℤ) → rest ≤ 65536 → unsigned_abs k ≤ 2 ^ 31 → r ≡ pos rest → f ≡ k → IsProduct w64 (word_of w64 r *ℤ word_of w64 f) (pos rest *ℤ k) (2 ^ 47)
weight_product rest k r f few small e e' =
    let first : word_of w64 r ≡ pos rest = ap (word_of w64) e ∙ plain w64 (pos rest) (omega (arith, few)) in
    let second : word_of w64 f ≡ k = ap (word_of w64) e' ∙ plain w64 k (omega (arith, small)) in
    product w64 (pos rest) k r f 65536 (2 ^ 31) (2 ^ 47) few small first second (lit≤ tt) (lit< tt)

-- the product of two numbers of a lag, passed on to 128 bits
pub wide_product : (a b p q : ℤ) → unsigned_abs a < 2 ^ 48 → unsigned_abs b ≤ 2 ^ 47 → p ≡ word_of w64 a → q ≡ word_of w64 b → IsProduct w128 (word_of w128 p *ℤ word_of w128 q) (a *ℤ b) (2 ^ 95 - 1)
wide_product a b p q h k e e' =
    let first : word_of w128 p ≡ a = ap (word_of w128) (e ∙ plain w64 a (omega (arith, h))) ∙ plain w128 a (omega (arith, h)) in
    let second : word_of w128 q ≡ b = ap (word_of w128) (e' ∙ plain w64 b (omega (arith, k))) ∙ plain w128 b (omega (arith, k)) in
    product w128 a b p q (2 ^ 48 - 1) (2 ^ 47) (2 ^ 95 - 1) (omega (arith, h)) k first second (lit≤ tt) (lit< tt)
