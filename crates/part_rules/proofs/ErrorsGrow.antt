-- Errors grow with what they are computed from, and a divisor that isn't 0 in a wide range isn't in a narrower one.
use Rattle.std.specs.Prelude.{◌≡◌, ℕ, zero, suc, ◌+◌, ◌-◌, ◌*◌, ◌^◌, ◌≤◌, Bool, true, false, ◌&&◌, ◌||◌, ℤ, pos, negsuc, ◌+ℤ◌, ◌-ℤ◌, ◌*ℤ◌, ◌≤ℤ◌, ◌<ℤ◌, int_le, unsigned_abs, if◌then◌else◌}
use Rattle.std.specs.Int.{int_min}
use Rattle.std.proofs.Common.{refl, ap, arith, inl, inr, mul-le-mul, mul-le-mul_left, mul-le-mul_right, le_of_mul-le-mul_right, pow_pos}
use Rattle.std.proofs.lemmas.Int.{ints, clamps}
use native.Mathlib.Nat.{mul-pos}
use Rattle.fx_fraction.proofs.WholeNumbers.{int_le_trans, int_le-pos, int_le-add, int_le-mul, int_is_natural, int_lt-le_trans, int_mul_comm, int_le-true}
use Rattle.fx_core.specs.Rounding.{least_quotient_above, power}
use Rattle.fx_core.proofs.Integers.{less_of_products}
use Rattle.fx_core.proofs.RoundingLaws.{least_quotient_above_bounds}
use Rattle.part_rules.specs.declared.bounds.Bounds.{Bounds}
use Rattle.part_rules.specs.Errors.{magnitude, mignitude, may_be_zero, product_error, quotient_error, shifted_error}
use Rattle.part_rules.specs.PartRules.{IsNarrower}
use Rattle.part_rules.proofs.Products.{magnitude_positive, product_error_of}
use Rattle.part_rules.proofs.Divisors.{IsOneSided, stays_away, dividend_natural, divisor_natural, quotient_error_of}

pub wide_positive : (narrow wide : Bounds) → IsNarrower narrow wide → pos 0 ≤ℤ wide.err
wide_positive narrow wide n = int_le_trans _ _ _ n.proper.positive n.inside.error

pub sum_grows : (x y x' y' : Bounds) → IsNarrower x x' → IsNarrower y y' → (x.err +ℤ y.err) ≤ℤ (x'.err +ℤ y'.err)
sum_grows x y x' y' p q = int_le-add _ _ _ _ p.inside.error q.inside.error

pub magnitude_grows : (narrow wide : Bounds) → IsNarrower narrow wide → magnitude narrow ≤ℤ magnitude wide
magnitude_grows narrow wide n =
    let low = n.inside.low in
    let ordered = n.proper.ordered in
    let high = n.inside.high in
    omega (arith, ints, clamps, low, ordered, high)

-- ---- quotients rounded up

above_at : (n r s : ℤ) (k : ℕ) → ((r -ℤ pos 1) *ℤ pos k) <ℤ n → n ≤ℤ (s *ℤ pos k) → r ≤ℤ s
above_at n r s k low high =
    let less : (r -ℤ pos 1) <ℤ s = less_of_products (r -ℤ pos 1) s k (int_lt-le_trans _ _ _ low high) in
    omega (arith, ints, less)

pub above_least : (n d q : ℤ) → pos 1 ≤ℤ d → n ≤ℤ (q *ℤ d) → least_quotient_above n d ≤ℤ q
above_least n (pos k) q one h = above_at n (least_quotient_above n (pos k)) q k (least_quotient_above_bounds n (pos k) one).1 h
above_least n (negsuc k) q one h = absurd one.le

pub above_grows : (n m d : ℤ) → pos 1 ≤ℤ d → n ≤ℤ m → least_quotient_above n d ≤ℤ least_quotient_above m d
above_grows n m d one h = above_least n d (least_quotient_above m d) one (int_le_trans _ _ _ h (least_quotient_above_bounds m d one).0)

pub shifted_grows : (shift : ℕ) (err fel : ℤ) → err ≤ℤ fel → shifted_error shift err ≤ℤ shifted_error shift fel
unfolding shifted_error
shifted_grows zero err fel h = h
shifted_grows (suc k) err fel h = int_le-add _ _ _ _ (above_grows err fel (power (suc k)) (int_le-pos _ _ (pow_pos (suc k))) h) (omega (arith, ints))

-- ---- products

pub products_grow : (a b c d : ℤ) → pos 0 ≤ℤ c → pos 0 ≤ℤ b → a ≤ℤ c → b ≤ℤ d → (a *ℤ b) ≤ℤ (c *ℤ d)
products_grow a b c d p q h k =
    let second : (b *ℤ c) ≤ℤ (d *ℤ c) = int_le-mul b d c k p in
    int_le_trans _ _ _ (int_le-mul a c b h q) (rw (int_mul_comm c b, int_mul_comm c d) second)

pub product_grows : (x y x' y' : Bounds) → IsNarrower x x' → IsNarrower y y' → product_error x y ≤ℤ product_error x' y'
unfolding product_error
product_grows x y x' y' p q =
    let one : pos 1 ≤ℤ pos 65536 = omega (arith, ints) in
    let errors : (x.err *ℤ y.err) ≤ℤ (x'.err *ℤ y'.err) = products_grow _ _ _ _ (wide_positive x x' p) q.proper.positive p.inside.error q.inside.error in
    let first : (magnitude x *ℤ y.err) ≤ℤ (magnitude x' *ℤ y'.err) = products_grow _ _ _ _ (magnitude_positive x') q.proper.positive (magnitude_grows x x' p) q.inside.error in
    let second : (magnitude y *ℤ x.err) ≤ℤ (magnitude y' *ℤ x'.err) = products_grow _ _ _ _ (magnitude_positive y') p.proper.positive (magnitude_grows y y' q) p.inside.error in
    int_le-add _ _ _ _ (int_le-add _ _ _ _ first second) (above_grows _ _ _ one errors)

pub product_positive : (x y : Bounds) → pos 0 ≤ℤ x.err → pos 0 ≤ℤ y.err → pos 0 ≤ℤ product_error x y
product_positive x y p q = let e = product_error_of x y p q in rw e.is (int_le-pos _ _ (omega arith))

-- ---- divisors

not_le : (a b : ℤ) (t : Bool) → int_le a b ≡ t → b <ℤ a → t ≡ false
not_le a b false e h = refl
not_le a b true e h = let k = int_le-true a b e in absurd (omega (arith, ints, h, k))

away_test : (lo hi err : ℤ) (s t : Bool) → int_le lo (pos 0) ≡ s → int_le (pos 0) hi ≡ t → IsOneSided lo hi → err <ℤ (pos 65536 *ℤ int_min (pos (unsigned_abs lo)) (pos (unsigned_abs hi))) → ((s && t) || int_le (pos 65536 *ℤ (if s && t then pos 0 else int_min (pos (unsigned_abs lo)) (pos (unsigned_abs hi)))) err) ≡ false
away_test lo hi err true true e f (inl h) k = let low = int_le-true lo (pos 0) e in absurd (omega (arith, ints, h, low))
away_test lo hi err true true e f (inr h) k = let high = int_le-true (pos 0) hi f in absurd (omega (arith, ints, h, high))
away_test lo hi err true false e f side k = not_le _ _ _ refl k
away_test lo hi err false t e f side k = not_le _ _ _ refl k

-- a narrower divisor stays as far from 0
record Stays (narrow wide : Bounds) : Type 0 where
  side : IsOneSided narrow.lo narrow.hi
  least : unsigned_abs (mignitude wide) ≤ unsigned_abs (int_min (pos (unsigned_abs narrow.lo)) (pos (unsigned_abs narrow.hi)))
  error : narrow.err <ℤ (pos 65536 *ℤ int_min (pos (unsigned_abs narrow.lo)) (pos (unsigned_abs narrow.hi)))

side_narrower : (narrow wide : Bounds) → IsNarrower narrow wide → IsOneSided wide.lo wide.hi → IsOneSided narrow.lo narrow.hi
side_narrower narrow wide n (inl h) = let low = n.inside.low in inl (omega (arith, ints, h, low))
side_narrower narrow wide n (inr h) = let high = n.inside.high in inr (omega (arith, ints, h, high))

error_below : (err fel a : ℤ) (l : ℕ) → err ≤ℤ fel → fel <ℤ pos (65536 * l) → l ≤ unsigned_abs a → pos 0 ≤ℤ a → err <ℤ (pos 65536 *ℤ a)
error_below err fel (pos a) l h k p q = omega (arith, ints, h, k, p)
error_below err fel (negsuc a) l h k p q = absurd q.le

stays : (narrow wide : Bounds) → IsNarrower narrow wide → may_be_zero wide ≡ false → Stays narrow wide
stays narrow wide n h =
    let away = stays_away wide h in
    let side = side_narrower narrow wide n away.side in
    let low_end = away.away narrow.lo (record { low = n.inside.low; high = int_le_trans _ _ _ n.proper.ordered n.inside.high }) in
    let high_end = away.away narrow.hi (record { low = int_le_trans _ _ _ n.inside.low n.proper.ordered; high = n.inside.high }) in
    let m = int_min (pos (unsigned_abs narrow.lo)) (pos (unsigned_abs narrow.hi)) in
    let least : unsigned_abs (mignitude wide) ≤ unsigned_abs m = omega (arith, ints, clamps, low_end, high_end) in
    let whole : pos 0 ≤ℤ m = omega (arith, ints, clamps) in
    record { side = side; least = least; error = error_below _ _ _ _ n.inside.error away.error least whole }

-- where a divisor of wide bounds can't be 0, one of narrower bounds can't
pub divisor_narrower : (narrow wide : Bounds) → IsNarrower narrow wide → may_be_zero wide ≡ false → may_be_zero narrow ≡ false
divisor_narrower narrow wide n h =
    let s = stays narrow wide n h in
    away_test narrow.lo narrow.hi narrow.err _ _ refl refl s.side s.error

-- ---- quotients

quotient_naturals : (M F L E W M' F' L' E' W' Q s : ℕ) → 1 ≤ L' → M ≤ M' → F ≤ F' → E ≤ E' → L' ≤ L → W' ≤ W → s * (M' * F' + L' * E') ≤ Q * (L' * W') → s * (M * F + L * E) ≤ Q * (L * W)
quotient_naturals M F L E W M' F' L' E' W' Q s some h k p l w bound =
    let first : M * F * L' ≤ M' * F' * L = mul-le-mul (mul-le-mul h k) l in
    let second : L * L' * E ≤ L * L' * E' = mul-le-mul_left (L * L') p in
    let third : (M * F + L * E) * L' ≤ (M' * F' + L' * E') * L = omega (arith, first, second) in
    let fourth : s * ((M * F + L * E) * L') ≤ s * ((M' * F' + L' * E') * L) = mul-le-mul_left s third in
    let fifth : s * (M' * F' + L' * E') * L ≤ Q * (L' * W') * L = mul-le-mul_right L bound in
    let sixth : Q * L' * L * W' ≤ Q * L' * L * W = mul-le-mul_left (Q * L' * L) w in
    let all : s * (M * F + L * E) * L' ≤ Q * (L * W) * L' = omega (arith, fourth, fifth, sixth) in
    le_of_mul-le-mul_right all some

-- a factor of the divisor, taken out and put back
factor_out : (N Q L W K : ℕ) → N ≤ Q * (L * W * K) → N ≤ Q * K * (L * W)
factor_out N Q L W K h = omega (arith, h)

factor_in : (N Q L W K : ℕ) → N ≤ Q * K * (L * W) → N ≤ Q * (L * W * K)
factor_in N Q L W K h = omega (arith, h)

least_test : (lo hi : ℤ) (s t : Bool) → int_le lo (pos 0) ≡ s → int_le (pos 0) hi ≡ t → IsOneSided lo hi → (if s && t then pos 0 else int_min (pos (unsigned_abs lo)) (pos (unsigned_abs hi))) ≡ int_min (pos (unsigned_abs lo)) (pos (unsigned_abs hi))
least_test lo hi true true e f (inl h) = let low = int_le-true lo (pos 0) e in absurd (omega (arith, ints, h, low))
least_test lo hi true true e f (inr h) = let high = int_le-true (pos 0) hi f in absurd (omega (arith, ints, h, high))
least_test lo hi true false e f side = refl
least_test lo hi false t e f side = refl

-- what a divisor's numbers are as naturals
record IsDivisor (y : Bounds) (F L W : ℕ) : Type 0 where
  error : y.err ≡ pos F
  least : mignitude y ≡ pos L
  left : W + F ≡ 65536 * L
  some : 1 ≤ L
  some_left : 1 ≤ W

some_of : (err : ℤ) (l : ℕ) → pos 0 ≤ℤ err → err <ℤ pos (65536 * l) → 1 ≤ l
some_of err l p h = omega (arith, ints, p, h)

left_of : (err : ℤ) (l : ℕ) → pos 0 ≤ℤ err → err <ℤ pos (65536 * l) → (1 ≤ 65536 * l - unsigned_abs err) × ((65536 * l - unsigned_abs err) + unsigned_abs err ≡ 65536 * l)
left_of err l p h = (omega (arith, ints, p, h), omega (arith, ints, p, h))

is_divisor : (y : Bounds) → pos 0 ≤ℤ y.err → may_be_zero y ≡ false → IsDivisor y (unsigned_abs y.err) (unsigned_abs (mignitude y)) (65536 * unsigned_abs (mignitude y) - unsigned_abs y.err)
is_divisor y p h =
    let away = stays_away y h in
    let l = left_of y.err (unsigned_abs (mignitude y)) p away.error in
    record {
      error = int_is_natural y.err p;
      least = away.is;
      left = l.1;
      some = some_of _ _ p away.error;
      some_left = l.0;
    }

least_grows : (narrow wide : Bounds) → IsNarrower narrow wide → may_be_zero wide ≡ false → unsigned_abs (mignitude wide) ≤ unsigned_abs (mignitude narrow)
least_grows narrow wide n h =
    let s = stays narrow wide n h in
    rw (least_test narrow.lo narrow.hi _ _ refl refl s.side) s.least

naturals_grow : (a b : ℤ) → pos 0 ≤ℤ a → a ≤ℤ b → unsigned_abs a ≤ unsigned_abs b
naturals_grow a b p h = omega (arith, ints, p, h)

pub quotient_grows : (k : ℕ) (top err top' err' : ℤ) (y y' : Bounds) → pos 0 ≤ℤ top → top ≤ℤ top' → pos 0 ≤ℤ err → err ≤ℤ err' → IsNarrower y y' → may_be_zero y' ≡ false → quotient_error k top err y ≤ℤ quotient_error k top' err' y'
unfolding quotient_error
quotient_grows k top err top' err' y y' p h q i n away =
    let K = 2 ^ k in
    let M = unsigned_abs top in
    let E = unsigned_abs err in
    let F = unsigned_abs y.err in
    let L = unsigned_abs (mignitude y) in
    let W = 65536 * L - F in
    let M' = unsigned_abs top' in
    let E' = unsigned_abs err' in
    let F' = unsigned_abs y'.err in
    let L' = unsigned_abs (mignitude y') in
    let W' = 65536 * L' - F' in
    let d = is_divisor y n.proper.positive (divisor_narrower y y' n away) in
    let d' = is_divisor y' (wide_positive y y' n) away in
    let least : L' ≤ L = least_grows y y' n away in
    let error : F ≤ F' = naturals_grow _ _ n.proper.positive n.inside.error in
    let left : W' ≤ W = omega (arith, least, error) in
    let wide = quotient_error_of k top' err' y' M' E' F' L' W' (int_is_natural top' (int_le_trans _ _ _ p h)) (int_is_natural err' (int_le_trans _ _ _ q i)) d'.error d'.least d'.left d'.some d'.some_left in
    let bound : 65536 * (M * F + L * E) ≤ wide.rest * (L * W * K) = factor_in _ wide.rest L W K (quotient_naturals M F L E W M' F' L' E' W' (wide.rest * K) 65536 d'.some (naturals_grow _ _ p h) error (naturals_grow _ _ q i) least left (factor_out _ wide.rest L' W' K wide.above)) in
    let top_is = dividend_natural top err y.err (mignitude y) M E F L (int_is_natural top p) (int_is_natural err q) d.error d.least in
    let bottom_is : mignitude y *ℤ (pos 65536 *ℤ mignitude y -ℤ y.err) *ℤ power k ≡ pos (L * W * K) = ap (λ t. t *ℤ power k) (divisor_natural y.err (mignitude y) F L W d.error d.least d.left) in
    let one : pos 1 ≤ℤ pos (L * W * K) = int_le-pos _ _ (mul-pos (mul-pos d.some d.some_left) (pow_pos k)) in
    let narrow : least_quotient_above (pos (65536 * (M * F + L * E))) (pos (L * W * K)) ≤ℤ pos wide.rest = above_least _ _ _ one (int_le-pos _ _ bound) in
    rw (top_is, bottom_is, wide.is) (int_le-add _ _ _ _ narrow (int_le-pos _ _ (omega arith)))
