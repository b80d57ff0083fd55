-- Sums, differences and products of two numbers in 128 bits, as words give them: none goes past an end.
use Rattle.std.proofs.Common.{◌≡◌, ℕ, ◌*◌, ◌<◌, ◌≤◌, ◌^◌, lit<, lit≤, ℤ, pos, negsuc, ◌+ℤ◌, ◌-ℤ◌, ◌*ℤ◌, ◌≤ℤ◌, ◌<ℤ◌, ◌∙◌, ap, ap₂, arith, mul-le-mul_left, FitsSigned, to_z, of_z}
use Rattle.std.specs.Int.{w64, w128}
use Rattle.std.specs.Prelude.{unsigned_abs}
use Rattle.std.proofs.Math.Nat.{pow-le-pow_right}
use Rattle.std.proofs.lemmas.Int.{ints, to_z-of_z, unsigned_abs-mul}
use borrow.Author.Differences.{fits_in}
use Rattle.fx_core.proofs.WordSteps.{IsStep, word_of}
use Rattle.fx_core.proofs.WordSteps as steps
use Rattle.part_rules.specs.declared.bounds.Bounds.{Bounds}
use Rattle.part_rules.specs.Entries.{IsSmall}

-- a number as a word that was passed
abbrev pub word : ℤ → ℤ
word z = word_of w128 z

-- a number of 64 bits, passed on twice
pub count_word : (z n : ℤ) → FitsSigned w64 z → FitsSigned w128 n → n ≡ to_z w64 (of_z w64 z) → word n ≡ z
count_word z n fits fits' e = to_z-of_z w128 n fits' ∙ e ∙ to_z-of_z w64 z fits

pub plain_count : (n : ℤ) → unsigned_abs n < 2 ^ 32 → word n ≡ n
plain_count n h = steps.plain w128 n (omega (arith, h))

pub sum_step : (s t : ℤ) → unsigned_abs s < 2 ^ 71 → unsigned_abs t < 2 ^ 71 → IsStep w128 (word s +ℤ word t) (s +ℤ t) (2 ^ 72)
sum_step s t h k = steps.sum_step w128 s t (2 ^ 71) (2 ^ 71) h k (lit≤ tt)

pub difference_step : (s t : ℤ) → unsigned_abs s < 2 ^ 71 → unsigned_abs t < 2 ^ 71 → IsStep w128 (word s -ℤ word t) (s -ℤ t) (2 ^ 72)
difference_step s t h k = steps.difference_step w128 s t (2 ^ 71) (2 ^ 71) h k (lit≤ tt)

-- the product of a number of at most 74 bits and one of at most 32
pub product_step : (n f : ℤ) → unsigned_abs n < 2 ^ 74 → unsigned_abs f < 2 ^ 32 → IsStep w128 (word n *ℤ word f) (n *ℤ f) (2 ^ 106)
product_step n f h k = steps.product_step w128 n f (2 ^ 74) (2 ^ 32) h (omega (arith, k)) (lit< tt) (lit< tt)

-- of two numbers of at most 32
pub product_size : (n f : ℤ) → unsigned_abs n < 2 ^ 32 → unsigned_abs f < 2 ^ 32 → unsigned_abs (word (word n *ℤ word f)) < 2 ^ 64
product_size n f h k = (steps.product_step w128 n f (2 ^ 32) (2 ^ 32) h (omega (arith, k)) (lit< tt) (lit< tt)).size

-- by a power of two
pub raised_size : (n f : ℤ) → unsigned_abs n < 2 ^ 74 → unsigned_abs f ≤ 2 ^ 30 → unsigned_abs (word (word n *ℤ word f)) ≤ unsigned_abs n * 2 ^ 30
raised_size n f h k =
    let product = product_step n f h (omega (arith, k)) in
    rw (product.value, unsigned_abs-mul n f) (mul-le-mul_left (unsigned_abs n) k)

-- ---- limits, at an absolute value

pub power_small : (k : ℕ) → k ≤ 30 → 2 ^ k ≤ 2 ^ 30
power_small k h = pow-le-pow_right (lit< tt) h

pub small_power : {k : ℕ} → k ≤ 2 ^ 30 → k < 2 ^ 32
small_power h = omega (arith, h)

-- of what was raised from at most 40 bits
pub raised_below : {n k : ℕ} → n < 2 ^ 40 → k ≤ n * 2 ^ 30 → k < 2 ^ 71
raised_below h k = omega (arith, h, k)

-- of what was raised from at most 32
pub raised_wide : {n k : ℕ} → n < 2 ^ 32 → k ≤ n * 2 ^ 30 → k < 2 ^ 104
raised_wide h k = omega (arith, h, k)

pub error_below : {n : ℕ} → n < 2 ^ 40 → n < 2 ^ 74
error_below h = omega (arith, h)

pub count_below : {n : ℕ} → n < 2 ^ 32 → n < 2 ^ 71
count_below h = omega (arith, h)

pub factor_below : {n : ℕ} → n < 2 ^ 32 → n < 2 ^ 74
factor_below h = omega (arith, h)

-- ---- an error of 64 bits, passed on

pub record IsError (b : Bounds) (n : ℤ) : Type 0 where
  pub value : n ≡ b.err
  pub plain : word n ≡ b.err
  pub low : pos 0 ≤ℤ n
  pub near : n <ℤ pos (2 ^ 40)
  pub size : unsigned_abs n < 2 ^ 40

pub is_error : (b : Bounds) (n : ℤ) → IsSmall b → n ≡ to_z w64 (of_z w64 b.err) → IsError b n
is_error b n small e =
    let low = small.positive in
    let high = small.near in
    let value : n ≡ b.err = e ∙ to_z-of_z w64 b.err (fits_in w64 b.err (omega (arith, ints, low, high))) in
    record {
      value = value;
      plain = ap word value ∙ to_z-of_z w128 b.err (fits_in w128 b.err (omega (arith, ints, low, high)));
      low = rw value low;
      near = rw value high;
      size = rw value (omega (arith, ints, low, high));
    }

-- ---- the limits of a factor of a product, as a word

pub record IsFactor (n : ℤ) : Type 0 where
  pub low : pos 0 ≤ℤ word n
  pub narrow : word n <ℤ pos (2 ^ 49)
  pub top : word n <ℤ pos (2 ^ 64)
  pub high : word n <ℤ pos (2 ^ 74)
  pub wide : word n <ℤ pos (2 ^ 78)

pub is_factor : (n : ℤ) → pos 0 ≤ℤ n → n <ℤ pos (2 ^ 40) → IsFactor n
is_factor n low near =
    let plain : word n ≡ n = to_z-of_z w128 n (fits_in w128 n (omega (arith, ints, low, near))) in
    record {
      low = rw plain low;
      narrow = rw plain (omega (arith, ints, near));
      top = rw plain (omega (arith, ints, near));
      high = rw plain (omega (arith, ints, near));
      wide = rw plain (omega (arith, ints, near));
    }

pub magnitude_factor : (n : ℤ) → pos 0 ≤ℤ n → n <ℤ pos (2 ^ 32) → IsFactor n
magnitude_factor n low high = is_factor n low (omega (arith, ints, high))

pub error_factor : (b : Bounds) (n : ℤ) → IsSmall b → n ≡ to_z w64 (of_z w64 b.err) → IsFactor n
error_factor b n small e =
    let error = is_error b n small e in
    is_factor n error.low error.near

-- what isn't negative, as a word
pub word_low : (n : ℤ) → FitsSigned w128 n → pos 0 ≤ℤ n → pos 0 ≤ℤ word n
word_low n fits low = rw (to_z-of_z w128 n fits) low

pub word_high : (n : ℤ) → FitsSigned w128 n → n <ℤ pos (2 ^ 74) → word n <ℤ pos (2 ^ 106)
word_high n fits high = rw (to_z-of_z w128 n fits) (omega (arith, ints, high))

-- ---- two errors together, in 64 bits

errors_plain : (b : Bounds) → IsSmall b → to_z w64 (of_z w64 b.err) ≡ b.err
errors_plain b small =
    let low = small.positive in
    let high = small.near in
    to_z-of_z w64 b.err (fits_in w64 b.err (omega (arith, ints, low, high)))

sum_fits : (s t : ℤ) → pos 0 ≤ℤ s → s <ℤ pos (2 ^ 40) → pos 0 ≤ℤ t → t <ℤ pos (2 ^ 40) → FitsSigned w64 (s +ℤ t) × FitsSigned w128 (s +ℤ t)
sum_fits s t a b c d = (fits_in w64 _ (omega (arith, ints, a, b, c, d)), fits_in w128 _ (omega (arith, ints, a, b, c, d)))

pub errors_fit : (x y : Bounds) → IsSmall x → IsSmall y → FitsSigned w64 (to_z w64 (of_z w64 x.err) +ℤ to_z w64 (of_z w64 y.err))
errors_fit x y small small' = rw (errors_plain x small, errors_plain y small') (sum_fits x.err y.err small.positive small.near small'.positive small'.near).0

pub errors_sum : (x y : Bounds) (n : ℤ) → IsSmall x → IsSmall y → n ≡ to_z w64 (of_z w64 (to_z w64 (of_z w64 x.err) +ℤ to_z w64 (of_z w64 y.err))) → word n ≡ x.err +ℤ y.err
errors_sum x y n small small' e =
    let fits = sum_fits x.err y.err small.positive small.near small'.positive small'.near in
    let value : n ≡ x.err +ℤ y.err = e ∙ to_z-of_z w64 _ (errors_fit x y small small') ∙ ap₂ (λ s t. s +ℤ t) (errors_plain x small) (errors_plain y small') in
    ap word value ∙ to_z-of_z w128 _ fits.1

-- ---- an end of a range, passed on

pub record IsEnd (z n : ℤ) : Type 0 where
  pub value : n ≡ z
  pub size : unsigned_abs n < 2 ^ 32

is_end : (z n : ℤ) → negsuc 2147483647 ≤ℤ z → z ≤ℤ pos 4294967295 → n ≡ to_z w64 (of_z w64 z) → IsEnd z n
is_end z n low high e =
    let value : n ≡ z = e ∙ to_z-of_z w64 z (fits_in w64 z (omega (arith, ints, low, high))) in
    record { value = value; size = rw value (omega (arith, ints, low, high)) }

pub is_low_end : (b : Bounds) (n : ℤ) → IsSmall b → n ≡ to_z w64 (of_z w64 b.lo) → IsEnd b.lo n
is_low_end b n small e =
    let ordered = small.ordered in
    let high = small.high in
    is_end b.lo n small.low (omega (arith, ints, ordered, high)) e

pub is_high_end : (b : Bounds) (n : ℤ) → IsSmall b → n ≡ to_z w64 (of_z w64 b.hi) → IsEnd b.hi n
is_high_end b n small e =
    let ordered = small.ordered in
    let low = small.low in
    is_end b.hi n (omega (arith, ints, low, ordered)) small.high e
