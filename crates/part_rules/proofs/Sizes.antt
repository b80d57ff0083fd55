-- How large products of numbers that aren't negative are.
use Rattle.std.specs.Prelude.{◌≡◌, ℕ, ◌*◌, ◌^◌, ◌≤◌, ◌<◌, ℤ, pos, negsuc, ◌*ℤ◌, ◌+ℤ◌, ◌-ℤ◌, ◌≤ℤ◌, ◌<ℤ◌, false, unsigned_abs, zero, suc}
use Rattle.std.specs.Int.{w128}
use Rattle.std.proofs.Common.{refl, lit<, sym, ap, ap₂, ◌∙◌, arith, mul-le-mul, mul-le-mul_left, FitsSigned}
use borrow.Author.Differences.{fits_in}
use native.Mathlib.Nat.{mul-pos}
use Rattle.std.proofs.lemmas.Nat.{pow_pos}
use Rattle.std.proofs.lemmas.Int.{ints, to_z-of_z, fits_signed_mul}
use Rattle.fx_fraction.proofs.WholeNumbers.{int_le-pos, le_of-int_le, int_lt-le_trans, int_mul_not_negative, int_mul_comm}
use Rattle.fx_core.specs.Rounding.{IsLeastQuotientAbove, least_quotient_above, power}
use Rattle.fx_core.proofs.Integers.{less_of_products}
use Rattle.fx_core.proofs.RoundingLaws.{least_quotient_above_bounds}
use Rattle.part_rules.specs.declared.bounds.Bounds.{Bounds}
use Rattle.part_rules.specs.Entries.{IsSmall}
use Rattle.part_rules.specs.Errors.{magnitude, mignitude, may_be_zero, product_error, shifted_error}
use Rattle.part_rules.proofs.Products.{above_positive}
use Rattle.part_rules.proofs.Divisors.{stays_away}
use Rattle.part_rules.proofs.WordSteps.{word}

-- a product is at most the product of what its factors are at most
pub product_size : (x y : ℤ) (m n : ℕ) → pos 0 ≤ℤ x → pos 0 ≤ℤ y → x ≤ℤ pos m → y ≤ℤ pos n → (x *ℤ y) ≤ℤ pos (m * n)
product_size (pos x) (pos y) m n p q h k = int_le-pos _ _ (mul-le-mul (le_of-int_le _ _ h) (le_of-int_le _ _ k))
product_size (negsuc x) y m n p q h k = absurd p.le
product_size (pos x) (negsuc y) m n p q h k = absurd q.le

pub is_below : (z : ℤ) (m n : ℕ) → z ≤ℤ pos m → m < n → z <ℤ pos n
is_below z m n h k = omega (arith, ints, h, k)

-- the product of a number of at most 78 bits and one of at most 49, as words
pub product_fits : (x y : ℤ) → FitsSigned w128 x → FitsSigned w128 y → pos 0 ≤ℤ x → x <ℤ pos (2 ^ 78) → pos 0 ≤ℤ y → y <ℤ pos (2 ^ 49) → FitsSigned w128 (word x *ℤ word y)
product_fits x y f g a b c d =
    rw (to_z-of_z w128 x f, to_z-of_z w128 y g) (fits_signed_mul w128 x y (2 ^ 78) 562949953421311 (omega (arith, ints, a, b)) (omega (arith, ints, c, d)) (lit< tt))

pub product_word : (x y : ℤ) → FitsSigned w128 x → FitsSigned w128 y → pos 0 ≤ℤ x → x <ℤ pos (2 ^ 78) → pos 0 ≤ℤ y → y <ℤ pos (2 ^ 49) → word (word x *ℤ word y) ≡ x *ℤ y
product_word x y f g a b c d = to_z-of_z w128 _ (product_fits x y f g a b c d) ∙ ap₂ (λ s t. s *ℤ t) (to_z-of_z w128 x f) (to_z-of_z w128 y g)

-- a quotient rounded up is at most what its dividend is at most
quotient_above_size : (n q : ℤ) (m : ℕ) → IsLeastQuotientAbove n (pos 65536) q → n ≤ℤ pos (m * 65536) → q ≤ℤ pos m
quotient_above_size n q m b h =
    let low : ((q -ℤ pos 1) *ℤ pos 65536) <ℤ n = b.1 in
    omega (arith, ints, low, h)

-- ---- the error of a product

pub record ProductWords (x y : Bounds) (p s q : ℤ) : Type 0 where
  pub first_low : pos 0 ≤ℤ p
  pub first_high : p ≤ℤ pos (2 ^ 72)
  pub second_low : pos 0 ≤ℤ s
  pub second_high : s ≤ℤ pos (2 ^ 72)
  pub third_low : pos 0 ≤ℤ q
  pub third_high : q ≤ℤ pos (2 ^ 64)
  pub value : p +ℤ s +ℤ q ≡ product_error x y

-- the product of a magnitude and an error, as words gave it
weighted : (r e r' e' p : ℤ) → pos 0 ≤ℤ r → r <ℤ pos (2 ^ 32) → pos 0 ≤ℤ e' → e' <ℤ pos (2 ^ 40) → r ≡ r' → e ≡ e' → p ≡ word r *ℤ word e → (p ≡ r' *ℤ e') × (pos 0 ≤ℤ p) × (p ≤ℤ pos (2 ^ 72))
weighted r e r' e' p low high low' high' h k i =
    let plain : word r ≡ r = omega (arith, ints, low, high) in
    let plain' : word e ≡ e' = rw k (omega (arith, ints, low', high')) in
    let value : p ≡ r *ℤ e' = i ∙ ap₂ (λ s t. s *ℤ t) plain plain' in
    let size : (r *ℤ e') ≤ℤ pos (2 ^ 32 * 2 ^ 40) = product_size r e' (2 ^ 32) (2 ^ 40) low low' (omega (arith, ints, high)) (omega (arith, ints, high')) in
    (value ∙ ap (λ t. t *ℤ e') h, rw value (int_mul_not_negative r e' low low'), rw value size)

pub product_words : (x y : Bounds) (rx ry ex ey p s b q : ℤ) → IsSmall x → IsSmall y → pos 0 ≤ℤ rx → rx <ℤ pos (2 ^ 32) → pos 0 ≤ℤ ry → ry <ℤ pos (2 ^ 32) → rx ≡ magnitude x → ry ≡ magnitude y → ex ≡ x.err → ey ≡ y.err → p ≡ word rx *ℤ word ey → s ≡ word ry *ℤ word ex → b ≡ word ex *ℤ word ey → q ≡ least_quotient_above (word b) (pos 65536) → ProductWords x y p s q
unfolding product_error
product_words x y rx ry ex ey p s b q small small' low high low' high' hx hy kx ky ip is ib iq =
    let first = weighted rx ey (magnitude x) y.err p low high small'.positive small'.near hx ky ip in
    let second = weighted ry ex (magnitude y) x.err s low' high' small.positive small.near hy kx is in
    let ex_low = small.positive in
    let ex_high = small.near in
    let ey_low = small'.positive in
    let ey_high = small'.near in
    let plain : word ex ≡ x.err = rw kx (omega (arith, ints, ex_low, ex_high)) in
    let plain' : word ey ≡ y.err = rw ky (omega (arith, ints, ey_low, ey_high)) in
    let both : b ≡ x.err *ℤ y.err = ib ∙ ap₂ (λ s t. s *ℤ t) plain plain' in
    let size : (x.err *ℤ y.err) ≤ℤ pos (2 ^ 40 * 2 ^ 40) = product_size x.err y.err (2 ^ 40) (2 ^ 40) ex_low ey_low (omega (arith, ints, ex_high)) (omega (arith, ints, ey_high)) in
    let positive : pos 0 ≤ℤ (x.err *ℤ y.err) = int_mul_not_negative x.err y.err ex_low ey_low in
    let whole_word : word b ≡ x.err *ℤ y.err = rw both (omega (arith, ints, positive, size)) in
    let value : q ≡ least_quotient_above (x.err *ℤ y.err) (pos 65536) = iq ∙ ap (λ t. least_quotient_above t (pos 65536)) whole_word in
    let one : pos 1 ≤ℤ pos 65536 = int_le-pos _ _ (omega arith) in
    let bounds : IsLeastQuotientAbove (x.err *ℤ y.err) (pos 65536) q = rw value (least_quotient_above_bounds (x.err *ℤ y.err) (pos 65536) one) in
    record {
      first_low = first.1;
      first_high = first.2;
      second_low = second.1;
      second_high = second.2;
      third_low = above_positive _ _ q positive one bounds;
      third_high = quotient_above_size _ q (2 ^ 64) bounds size;
      value = ap₂ (λ u v. u +ℤ v) (ap₂ (λ u v. u +ℤ v) first.0 second.0) value;
    }

-- the sum of the first two, and of the three, as words
pub pair_fits : {x y : Bounds} (p s q : ℤ) → ProductWords x y p s q → FitsSigned w128 (word p +ℤ word s)
pair_fits {x} {y} p s q w =
    let a = w.first_low in
    let b = w.first_high in
    let c = w.second_low in
    let d = w.second_high in
    let first : word p ≡ p = omega (arith, ints, a, b) in
    let second : word s ≡ s = omega (arith, ints, c, d) in
    rw (first, second) (fits_in w128 _ (omega (arith, ints, a, b, c, d)))

pub sum_fits : {x y : Bounds} (p s q : ℤ) → ProductWords x y p s q → FitsSigned w128 (word (word p +ℤ word s) +ℤ word q)
sum_fits {x} {y} p s q w =
    let a = w.first_low in
    let b = w.first_high in
    let c = w.second_low in
    let d = w.second_high in
    let e = w.third_low in
    let f = w.third_high in
    let first : word p ≡ p = omega (arith, ints, a, b) in
    let second : word s ≡ s = omega (arith, ints, c, d) in
    let third : word q ≡ q = omega (arith, ints, e, f) in
    let both : word (p +ℤ s) ≡ p +ℤ s = omega (arith, ints, a, b, c, d) in
    rw (first, second, both, third) (fits_in w128 _ (omega (arith, ints, a, b, c, d, e, f)))

pub sum_word : {x y : Bounds} (p s q : ℤ) → ProductWords x y p s q → word (word (word p +ℤ word s) +ℤ word q) ≡ p +ℤ s +ℤ q
sum_word {x} {y} p s q w =
    let a = w.first_low in
    let b = w.first_high in
    let c = w.second_low in
    let d = w.second_high in
    let e = w.third_low in
    let f = w.third_high in
    let first : word p ≡ p = omega (arith, ints, a, b) in
    let second : word s ≡ s = omega (arith, ints, c, d) in
    let third : word q ≡ q = omega (arith, ints, e, f) in
    let both : word (p +ℤ s) ≡ p +ℤ s = omega (arith, ints, a, b, c, d) in
    rw (first, second, both, third) (omega (arith, ints, a, b, c, d, e, f))

pub sum_low : {x y : Bounds} {p s q : ℤ} → ProductWords x y p s q → pos 0 ≤ℤ (p +ℤ s +ℤ q)
sum_low w =
    let a = w.first_low in
    let c = w.second_low in
    let e = w.third_low in
    omega (arith, ints, a, c, e)

pub sum_high : {x y : Bounds} {p s q : ℤ} → ProductWords x y p s q → (p +ℤ s +ℤ q) <ℤ pos (2 ^ 74)
sum_high w =
    let b = w.first_high in
    let d = w.second_high in
    let f = w.third_high in
    omega (arith, ints, b, d, f)

-- ---- the error of a quotient

-- a product of two words that aren't negative
word_product : (a b a' b' p : ℤ) (m n : ℕ) → a ≡ a' → b ≡ b' → pos 0 ≤ℤ a' → a' ≤ℤ pos m → pos 0 ≤ℤ b' → b' ≤ℤ pos n → m < 2 ^ 126 → n < 2 ^ 126 → p ≡ word a *ℤ word b → (p ≡ a' *ℤ b') × (pos 0 ≤ℤ p) × (p ≤ℤ pos (m * n))
word_product a b a' b' p m n h k low high low' high' small small' i =
    let plain : word a ≡ a' = rw h (omega (arith, ints, low, high, small)) in
    let plain' : word b ≡ b' = rw k (omega (arith, ints, low', high', small')) in
    let value : p ≡ a' *ℤ b' = i ∙ ap₂ (λ s t. s *ℤ t) plain plain' in
    (value, rw value (int_mul_not_negative a' b' low low'), rw value (product_size a' b' m n low low' high high'))

pub record DividendWords (top err : ℤ) (y : Bounds) (p s : ℤ) : Type 0 where
  pub first_low : pos 0 ≤ℤ p
  pub first_high : p ≤ℤ pos (2 ^ 104)
  pub second_low : pos 0 ≤ℤ s
  pub second_high : s ≤ℤ pos (2 ^ 106)
  pub value : p +ℤ s ≡ top *ℤ y.err +ℤ mignitude y *ℤ err

pub dividend_words : (top err : ℤ) (y : Bounds) (least ye p s : ℤ) → IsSmall y → pos 0 ≤ℤ top → top <ℤ pos (2 ^ 64) → pos 0 ≤ℤ err → err <ℤ pos (2 ^ 74) → pos 0 ≤ℤ least → least <ℤ pos (2 ^ 32) → least ≡ mignitude y → ye ≡ y.err → p ≡ word top *ℤ word ye → s ≡ word err *ℤ word least → DividendWords top err y p s
dividend_words top err y least ye p s small tl th el eh ll lh least_is err_is ip is =
    let yl = small.positive in
    let yh = small.near in
    let first = word_product top ye top y.err p (2 ^ 64) (2 ^ 40) refl err_is tl (omega (arith, ints, th)) yl (omega (arith, ints, yh)) (lit< tt) (lit< tt) ip in
    let second = word_product err least err least s (2 ^ 74) (2 ^ 32) refl refl el (omega (arith, ints, eh)) ll (omega (arith, ints, lh)) (lit< tt) (lit< tt) is in
    record {
      first_low = first.1;
      first_high = first.2;
      second_low = second.1;
      second_high = second.2;
      value = ap₂ (λ u v. u +ℤ v) first.0 (second.0 ∙ int_mul_comm err least ∙ ap (λ t. t *ℤ err) least_is);
    }

pub dividend_fits : {top err : ℤ} {y : Bounds} (p s : ℤ) → DividendWords top err y p s → FitsSigned w128 (word p +ℤ word s)
dividend_fits {top} {err} {y} p s w =
    let a = w.first_low in
    let b = w.first_high in
    let c = w.second_low in
    let d = w.second_high in
    let first : word p ≡ p = omega (arith, ints, a, b) in
    let second : word s ≡ s = omega (arith, ints, c, d) in
    rw (first, second) (fits_in w128 _ (omega (arith, ints, a, b, c, d)))

dividend_word : {top err : ℤ} {y : Bounds} (p s : ℤ) → DividendWords top err y p s → word (word p +ℤ word s) ≡ p +ℤ s
dividend_word {top} {err} {y} p s w =
    let a = w.first_low in
    let b = w.first_high in
    let c = w.second_low in
    let d = w.second_high in
    let first : word p ≡ p = omega (arith, ints, a, b) in
    let second : word s ≡ s = omega (arith, ints, c, d) in
    rw (first, second) (omega (arith, ints, a, b, c, d))

pub dividend_times_fits : {top err : ℤ} {y : Bounds} (p s : ℤ) → DividendWords top err y p s → FitsSigned w128 (pos 65536 *ℤ word (word p +ℤ word s))
dividend_times_fits {top} {err} {y} p s w =
    let a = w.first_low in
    let b = w.first_high in
    let c = w.second_low in
    let d = w.second_high in
    rw (dividend_word p s w) (fits_in w128 _ (omega (arith, ints, a, b, c, d)))

pub dividend_times_word : {top err : ℤ} {y : Bounds} (p s : ℤ) → DividendWords top err y p s → word (pos 65536 *ℤ word (word p +ℤ word s)) ≡ pos 65536 *ℤ (p +ℤ s)
dividend_times_word {top} {err} {y} p s w =
    let a = w.first_low in
    let b = w.first_high in
    let c = w.second_low in
    let d = w.second_high in
    rw (dividend_word p s w) (omega (arith, ints, a, b, c, d))

pub dividend_low : {top err : ℤ} {y : Bounds} {p s : ℤ} → DividendWords top err y p s → pos 0 ≤ℤ (pos 65536 *ℤ (p +ℤ s))
dividend_low w =
    let a = w.first_low in
    let c = w.second_low in
    omega (arith, ints, a, c)

pub dividend_high : {top err : ℤ} {y : Bounds} {p s : ℤ} → DividendWords top err y p s → (pos 65536 *ℤ (p +ℤ s)) <ℤ pos (2 ^ 124)
dividend_high w =
    let b = w.first_high in
    let d = w.second_high in
    omega (arith, ints, b, d)

-- what is left of 65536 times the least magnitude of a divisor that may not be 0
pub record DivisorWords (y : Bounds) (least ye : ℤ) : Type 0 where
  pub plain : word least ≡ mignitude y
  pub left : word (word (pos 65536 *ℤ word least) -ℤ word ye) ≡ pos 65536 *ℤ mignitude y -ℤ y.err
  pub low : pos 1 ≤ℤ (pos 65536 *ℤ mignitude y -ℤ y.err)
  pub some : pos 1 ≤ℤ mignitude y

least_word : (least : ℤ) (n : ℕ) → least ≡ pos n → n < 2 ^ 32 → word least ≡ pos n
least_word least n h k = rw h (omega (arith, ints, k))

pub divisor_words : (y : Bounds) (least ye : ℤ) → IsSmall y → may_be_zero y ≡ false → pos 0 ≤ℤ least → least <ℤ pos (2 ^ 32) → least ≡ mignitude y → ye ≡ y.err → DivisorWords y least ye
divisor_words y least ye small away ll lh least_is err_is =
    let a = stays_away y away in
    let yl = small.positive in
    let yh = small.near in
    let n = unsigned_abs (mignitude y) in
    let is : mignitude y ≡ pos n = a.is in
    let below : y.err <ℤ pos (65536 * n) = a.error in
    let ll' : pos 0 ≤ℤ mignitude y = rw (← least_is) ll in
    let lh' : mignitude y <ℤ pos (2 ^ 32) = rw (← least_is) lh in
    let nh : n < 2 ^ 32 = omega (arith, ints, lh') in
    let plain : word least ≡ pos n = least_word least n (least_is ∙ is) nh in
    let plain' : word ye ≡ y.err = rw err_is (omega (arith, ints, yl, yh)) in
    let product : word (pos 65536 *ℤ pos n) ≡ pos (65536 * n) = omega (arith, ints, nh) in
    record {
      plain = plain ∙ sym is;
      left = rw (plain, product, plain', is) (omega (arith, ints, nh, yl, yh));
      low = rw is (omega (arith, ints, below));
      some = rw is (omega (arith, ints, below, yl));
    }

pub divisor_high : (y : Bounds) (least ye q : ℤ) → DivisorWords y least ye → least <ℤ pos (2 ^ 32) → least ≡ mignitude y → pos 0 ≤ℤ y.err → ((m n : ℕ) → word least ≤ℤ pos m → word (word (pos 65536 *ℤ word least) -ℤ word ye) ≤ℤ pos n → q ≤ℤ pos (m * n)) → FitsSigned w128 q → word q <ℤ pos (2 ^ 81)
divisor_high y least ye q w high is positive size fits =
    let high' : mignitude y <ℤ pos (2 ^ 32) = rw (← is) high in
    let first : word least ≤ℤ pos (2 ^ 32) = rw w.plain (omega (arith, ints, high')) in
    let second : word (word (pos 65536 *ℤ word least) -ℤ word ye) ≤ℤ pos (2 ^ 48) = rw w.left (omega (arith, ints, high', positive)) in
    rw (to_z-of_z w128 q fits) (is_below q (2 ^ 32 * 2 ^ 48) (2 ^ 81) (size _ _ first second) (lit< tt))

pub product_some : (a b : ℤ) → pos 1 ≤ℤ a → pos 1 ≤ℤ b → pos 1 ≤ℤ (a *ℤ b)
product_some (pos a) (pos b) h k = int_le-pos 1 _ (mul-pos (le_of-int_le _ _ h) (le_of-int_le _ _ k))
product_some (negsuc a) b h k = absurd h.le
product_some (pos a) (negsuc b) h k = absurd k.le

-- the product of the divisors and a power of two
raised_divisors_plain : (d p : ℤ) → pos 1 ≤ℤ d → d <ℤ pos (2 ^ 81) → unsigned_abs p ≤ 2 ^ 30 → (word d ≡ d) × (word p ≡ p) × FitsSigned w128 (d *ℤ p)
raised_divisors_plain d p low high size =
    (omega (arith, ints, low, high), omega (arith, ints, size), fits_signed_mul w128 d p (2 ^ 81) (2 ^ 30) (omega (arith, ints, low, high)) size (lit< tt))

pub raised_divisors_fits : (d p : ℤ) → pos 1 ≤ℤ d → d <ℤ pos (2 ^ 81) → unsigned_abs p ≤ 2 ^ 30 → FitsSigned w128 (word d *ℤ word p)
raised_divisors_fits d p low high size =
    let plain = raised_divisors_plain d p low high size in
    rw (plain.0, plain.1) plain.2

pub raised_divisors_word : (d p : ℤ) → pos 1 ≤ℤ d → d <ℤ pos (2 ^ 81) → unsigned_abs p ≤ 2 ^ 30 → word (word d *ℤ word p) ≡ d *ℤ p
raised_divisors_word d p low high size =
    let plain = raised_divisors_plain d p low high size in
    rw (plain.0, plain.1) (to_z-of_z w128 (d *ℤ p) plain.2)

pub raised_divisors_some : (shift : ℕ) (d p : ℤ) → pos 1 ≤ℤ d → d <ℤ pos (2 ^ 81) → p ≡ power shift → unsigned_abs p ≤ 2 ^ 30 → pos 1 ≤ℤ word (word d *ℤ word p)
raised_divisors_some shift d p low high e size =
    rw (raised_divisors_word d p low high size) (product_some d p low (rw e (int_le-pos 1 _ (pow_pos shift))))

-- ---- a quotient rounded up and one count

-- rounded up it is at most its dividend
above_size : (n d q : ℤ) → pos 0 ≤ℤ n → pos 1 ≤ℤ d → IsLeastQuotientAbove n d q → q ≤ℤ n
above_size (pos n) (pos k) q h one b =
    let grows : n * 1 ≤ n * k = mul-le-mul_left n (le_of-int_le 1 k one) in
    let low : ((q -ℤ pos 1) *ℤ pos k) <ℤ pos n = b.1 in
    let wide : ((q -ℤ pos 1) *ℤ pos k) <ℤ (pos n *ℤ pos k) = int_lt-le_trans _ _ _ low (int_le-pos n (n * k) (omega (arith, grows))) in
    let less : (q -ℤ pos 1) <ℤ pos n = less_of_products (q -ℤ pos 1) (pos n) k wide in
    omega (arith, ints, less)
above_size (negsuc n) d q h one b = absurd h.le
above_size (pos n) (negsuc k) q h one b = absurd one.le

pub record AboveWords (n' d' q : ℤ) : Type 0 where
  pub fits : FitsSigned w128 (word q +ℤ pos 65536)
  pub value : word (word q +ℤ pos 65536) ≡ least_quotient_above n' d' +ℤ pos 65536

above_word : (q n : ℤ) → q ≤ℤ n → pos 0 ≤ℤ q → n <ℤ pos (2 ^ 124) → word (q +ℤ pos 65536) ≡ q +ℤ pos 65536
above_word q n small positive high = omega (arith, ints, small, positive, high)

pub above_words : (n d n' d' q : ℤ) → pos 0 ≤ℤ n → n <ℤ pos (2 ^ 124) → pos 1 ≤ℤ d → FitsSigned w128 d → n ≡ n' → d ≡ d' → q ≡ least_quotient_above (word n) (word d) → AboveWords n' d' q
above_words n d n' d' q low high one fits h k e =
    let plain : word n ≡ n = omega (arith, ints, low, high) in
    let plain' : word d ≡ d = to_z-of_z w128 d fits in
    let value : q ≡ least_quotient_above n d = e ∙ ap₂ least_quotient_above plain plain' in
    let b : IsLeastQuotientAbove n d q = rw value (least_quotient_above_bounds n d one) in
    let small : q ≤ℤ n = above_size n d q low one b in
    let positive : pos 0 ≤ℤ q = above_positive n d q low one b in
    let word_q : word q ≡ q = omega (arith, ints, small, positive, high) in
    record {
      fits = rw word_q (fits_in w128 _ (omega (arith, ints, small, positive, high)));
      value = rw word_q (above_word q n small positive high ∙ ap (λ t. t +ℤ pos 65536) (value ∙ ap₂ least_quotient_above h k));
    }

pub small_dividend : (err : ℤ) → err <ℤ pos (2 ^ 106) → err <ℤ pos (2 ^ 124)
small_dividend err h = omega (arith, ints, h)

pub power_some : (shift : ℕ) (p : ℤ) → p ≡ power shift → pos 1 ≤ℤ p
power_some shift p e = rw e (int_le-pos 1 _ (pow_pos shift))

pub shifted_by : (shift : ℕ) (err : ℤ) → (shift ≡ 0 → ⊥) → least_quotient_above err (power shift) +ℤ pos 65536 ≡ shifted_error shift err
unfolding shifted_error
shifted_by zero err h = absurd (h refl)
shifted_by (suc k) err h = refl

-- ---- dividends that are products

pub record Factors (a b p : ℤ) (limit : ℕ) : Type 0 where
  pub value : word p ≡ a *ℤ b
  pub high : word p <ℤ pos limit

-- of two numbers of 32 bits
pub magnitude_factors : (r s a b p : ℤ) → pos 0 ≤ℤ r → r <ℤ pos (2 ^ 32) → pos 0 ≤ℤ s → s <ℤ pos (2 ^ 32) → r ≡ a → s ≡ b → FitsSigned w128 p → p ≡ word r *ℤ word s → Factors a b p (2 ^ 64)
magnitude_factors r s a b p rl rh sl sh h k fits i =
    let w = word_product r s r s p 4294967295 4294967295 refl refl rl (omega (arith, ints, rh)) sl (omega (arith, ints, sh)) (lit< tt) (lit< tt) i in
    let plain : word p ≡ p = to_z-of_z w128 p fits in
    let high = w.2 in
    record { value = plain ∙ w.0 ∙ ap₂ (λ u v. u *ℤ v) h k; high = rw plain (omega (arith, ints, high)) }

-- of an error and a number of 32 bits
pub error_factors : (e s a b p : ℤ) → pos 0 ≤ℤ a → a <ℤ pos (2 ^ 40) → pos 0 ≤ℤ s → s <ℤ pos (2 ^ 32) → e ≡ a → s ≡ b → FitsSigned w128 p → p ≡ word e *ℤ word s → Factors a b p (2 ^ 74)
error_factors e s a b p al ah sl sh h k fits i =
    let w = word_product e s a s p (2 ^ 40) (2 ^ 32) h refl al (omega (arith, ints, ah)) sl (omega (arith, ints, sh)) (lit< tt) (lit< tt) i in
    let plain : word p ≡ p = to_z-of_z w128 p fits in
    let high = w.2 in
    record { value = plain ∙ w.0 ∙ ap (λ v. a *ℤ v) k; high = rw plain (omega (arith, ints, high)) }

pub power_low : (shift : ℕ) (p : ℤ) → p ≡ power shift → pos 0 ≤ℤ p
power_low shift p e = rw e (int_le-pos 0 _ (omega arith))

pub power_high : (shift : ℕ) (p : ℤ) → p ≡ power shift → unsigned_abs p ≤ 2 ^ 30 → p <ℤ pos (2 ^ 32)
power_high shift p e h = omega (arith, ints, h)
