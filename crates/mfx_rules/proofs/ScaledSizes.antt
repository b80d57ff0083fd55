-- How large numbers at binary points get: raised by at most 30 places.
use Rattle.std.proofs.Common.{◌≡◌, ℕ, ◌*◌, ◌-◌, ◌<◌, ◌≤◌, ◌^◌, ℤ, pos, ◌+ℤ◌, ◌*ℤ◌, ◌≤ℤ◌, ◌<ℤ◌, ◌∙◌, ap, ap₂, arith}
use Rattle.std.specs.Int.{w128}
use Rattle.std.specs.Prelude.{max, unsigned_abs}
use Rattle.std.proofs.lemmas.Int.{ints, to_z-of_z}
use borrow.Author.Differences.{fits_in}
use Rattle.fx_core.specs.Rounding.{power}
use Rattle.fx_fraction.proofs.WholeNumbers.{int_le-pos, int_mul_not_negative}
use Rattle.mfx_scaled.specs.declared.binary_points.Points.{Points}
use Rattle.mfx_scaled.specs.Counts.{raised}
use Rattle.part_rules.specs.Errors.{shifted_error}
use Rattle.mfx_rules.specs.ScaledCorners.{AreLow}
use Rattle.mfx_rules.specs.ScaledRules.{converted_error, highest, sum_error}
use Rattle.part_rules.proofs.WordSteps.{word}

-- ---- a number that isn't negative, raised, as a word

raised_plain : (n r : ℤ) (a m : ℕ) → pos 0 ≤ℤ n → n <ℤ pos (2 ^ 40) → r ≡ raised n a m → unsigned_abs r ≤ unsigned_abs n * 2 ^ 30 → (word r ≡ r) × (pos 0 ≤ℤ r)
raised_plain n r a m low high is size =
    let positive : pos 0 ≤ℤ r = rw is (int_mul_not_negative n _ low (int_le-pos 0 _ (omega arith))) in
    let below : unsigned_abs n < 2 ^ 40 = omega (arith, ints, low, high) in
    (omega (arith, ints, positive, size, below), positive)

pub raised_low : (n r : ℤ) (a m : ℕ) → pos 0 ≤ℤ n → n <ℤ pos (2 ^ 40) → r ≡ raised n a m → unsigned_abs r ≤ unsigned_abs n * 2 ^ 30 → pos 0 ≤ℤ word r
raised_low n r a m low high is size =
    let p = raised_plain n r a m low high is size in
    rw p.0 p.1

pub raised_high : (n r : ℤ) (a m : ℕ) → pos 0 ≤ℤ n → n <ℤ pos (2 ^ 40) → r ≡ raised n a m → unsigned_abs r ≤ unsigned_abs n * 2 ^ 30 → word r <ℤ pos (2 ^ 74)
raised_high n r a m low high is size =
    let p = raised_plain n r a m low high is size in
    let below : unsigned_abs n < 2 ^ 40 = omega (arith, ints, low, high) in
    rw p.0 (omega (arith, ints, size, below))

pub raised_top : (n r : ℤ) (a m : ℕ) → pos 0 ≤ℤ n → n <ℤ pos (2 ^ 32) → r ≡ raised n a m → unsigned_abs r ≤ unsigned_abs n * 2 ^ 30 → word r <ℤ pos (2 ^ 64)
raised_top n r a m low high is size =
    let p = raised_plain n r a m low (omega (arith, ints, high)) is size in
    let below : unsigned_abs n < 2 ^ 32 = omega (arith, ints, low, high) in
    rw p.0 (omega (arith, ints, size, below))

pub raised_is : (n r : ℤ) (a m : ℕ) → pos 0 ≤ℤ n → n <ℤ pos (2 ^ 40) → r ≡ raised n a m → unsigned_abs r ≤ unsigned_abs n * 2 ^ 30 → word r ≡ raised n a m
raised_is n r a m low high is size = (raised_plain n r a m low high is size).0 ∙ is

-- ---- an error that was raised, and a sum of two

pub record IsRaised (n : ℤ) (a m : ℕ) (r : ℤ) : Type 0 where
  pub value : word r ≡ raised n a m
  pub low : pos 0 ≤ℤ word r
  pub high : word r <ℤ pos (2 ^ 106)

pub error_size : (n : ℤ) → pos 0 ≤ℤ n → n <ℤ pos (2 ^ 74) → unsigned_abs n < 2 ^ 74
error_size n low high = omega (arith, ints, low, high)

pub is_raised : (n r : ℤ) (a m : ℕ) → pos 0 ≤ℤ n → n <ℤ pos (2 ^ 74) → r ≡ raised n a m → unsigned_abs r ≤ unsigned_abs n * 2 ^ 30 → IsRaised n a m r
is_raised n r a m low high is size =
    let positive : pos 0 ≤ℤ r = rw is (int_mul_not_negative n _ low (int_le-pos 0 _ (omega arith))) in
    let below : unsigned_abs n < 2 ^ 74 = error_size n low high in
    let plain : word r ≡ r = to_z-of_z w128 r (fits_in w128 r (omega (arith, ints, size, below))) in
    record { value = plain ∙ is; low = rw plain positive; high = rw plain (omega (arith, ints, size, below)) }

sum_low : (a b : ℤ) → pos 0 ≤ℤ a → pos 0 ≤ℤ b → pos 0 ≤ℤ (a +ℤ b)
sum_low a b h k = omega (arith, ints, h, k)

pub record IsErrorSum (s : ℤ) : Type 0 where
  pub value : word s ≡ s
  pub low : pos 0 ≤ℤ word s
  pub high : word s <ℤ pos (2 ^ 106)

pub is_error_sum : (n k s : ℤ) (a b m : ℕ) → pos 0 ≤ℤ n → pos 0 ≤ℤ k → s ≡ raised n a m +ℤ raised k b m → unsigned_abs s < 2 ^ 72 → IsErrorSum s
is_error_sum n k s a b m low low' is size =
    let first : pos 0 ≤ℤ raised n a m = int_mul_not_negative n _ low (int_le-pos 0 _ (omega arith)) in
    let second : pos 0 ≤ℤ raised k b m = int_mul_not_negative k _ low' (int_le-pos 0 _ (omega arith)) in
    let positive : pos 0 ≤ℤ s = rw is (sum_low _ _ first second) in
    let plain : word s ≡ s = to_z-of_z w128 s (fits_in w128 s (omega (arith, ints, size))) in
    record { value = plain; low = rw plain positive; high = rw plain (omega (arith, ints, size, positive)) }

-- ---- the points of a sum's error

pub record IsHighest (points : Points) (h : ℕ) : Type 0 where
  pub first : points.a ≤ h
  pub second : points.b ≤ h
  pub output : points.c ≤ h
  pub few : h ≤ 30

pub is_highest : (points : Points) (h : ℕ) → AreLow points → h ≡ highest points → IsHighest points h
is_highest points h low e =
    let first = low.first in
    let second = low.second in
    let output = low.output in
    record { first = omega (arith, e); second = omega (arith, e); output = omega (arith, e); few = omega (arith, e, first, second, output) }

-- ---- both errors' values, from what the steps gave

pub converted_value : (a c h : ℕ) (n w r : ℤ) → h ≡ max a c → w ≡ raised n a h → r ≡ shifted_error (h - c) w → r ≡ converted_error a c n
converted_value a c h n w r e is given =
    let up : h - a ≡ c - a = omega (arith, e) in
    let down : h - c ≡ a - c = omega (arith, e) in
    given ∙ ap₂ shifted_error down (is ∙ ap (λ k. n *ℤ power k) up)

pub sum_value : (points : Points) (ex ey n k s r : ℤ) (a b h : ℕ) → n ≡ ex → k ≡ ey → a ≡ points.a → b ≡ points.b → h ≡ highest points → s ≡ raised n a h +ℤ raised k b h → word s ≡ s → r ≡ shifted_error (h - points.c) (word s) → r ≡ sum_error points ex ey
unfolding sum_error
sum_value points ex ey n k s r a b h i j l m t is plain given =
    let sum = rw (i, j, l, m, t) at is in
    given ∙ ap₂ shifted_error (ap (λ h. h - points.c) t) (plain ∙ sum)
