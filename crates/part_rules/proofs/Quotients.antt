-- The error of a quotient, over numerators with a common denominator, and that no divisor is 0.
use Rattle.std.specs.Prelude.{◌≡◌, ℕ, zero, suc, ◌+◌, ◌-◌, ◌*◌, ◌^◌, ◌≤◌, ◌<◌, Bool, true, false, ℤ, pos, negsuc, ◌+ℤ◌, ◌-ℤ◌, ◌*ℤ◌, ◌≤ℤ◌, unsigned_abs, int_div}
use Rattle.std.proofs.Common.{refl, sym, ap, subst, arith, mul-le-mul, mul-le-mul_left, mul-le-mul_right, le_of_mul-le-mul_right, le_of_lt, mul_comm}
use Rattle.std.proofs.lemmas.Int.{ints, unsigned_abs-mul}
use Rattle.std.proofs.lemmas.Nat.{pow_pos}
use native.Mathlib.Nat.{mul-pos}
use Rattle.fx_fraction.specs.Fraction.{Fraction, denom, whole, times, divided, is_zero, Is}
use Rattle.fx_fraction.proofs.Polynomials.{differences, as_difference, same}
use Rattle.fx_fraction.proofs.WholeNumbers.{int_mul-one, int_mul_right_comm, int_is_natural, int_le-pos, unsigned_abs-add_le, unsigned_abs-mul_pos, unsigned_abs-triangle, unsigned_abs-sub-mul, unsigned_abs-sub_comm, with_sign}
use Rattle.fx_fraction.proofs.Denominators.{zero_out, is_divided, is_divided_signed, is_renamed, is_self, is_times, is_whole, common_two}
use Rattle.fx_fraction.proofs.Distances.{error_bound, bound_of_error}
use Rattle.fx_core.specs.declared.quotient.Mode.TheVariants.{Zero}
use Rattle.fx_core.specs.Rounding.{least_quotient_above, power, rounded}
use Rattle.fx_core.proofs.RoundingLaws.{least_quotient_above_bounds, rounded_by_one}
use Rattle.part_rules.specs.declared.bounds.Bounds.{Bounds}
use Rattle.part_rules.specs.Within.{IsWithin}
use Rattle.part_rules.specs.Errors.{mignitude, may_be_zero, quotient_error, shifted_error}
use Rattle.part_rules.proofs.Numerators.{IsNear, near-times, near-narrowed}
use Rattle.part_rules.proofs.Divisors.{StaysAway, stays_away, quotient_error_of}
use Rattle.part_rules.proofs.QuotientValues.{int_div-error}
use Rattle.part_rules.proofs.Nearness.{Near}
use Rattle.part_rules.proofs.Products.{near_positive, near_numerators, numerators_near}

-- ---- over naturals: a dividend of at most M with error E, a divisor B of at least L with error F

grows : (M L B E F Q W V s : ℕ) → 1 ≤ L → L ≤ B → W ≤ V → s * (M * F + L * E) ≤ Q * (L * W) → s * (M * F + B * E) ≤ Q * (B * V)
grows M L B E F Q W V s some h k p =
    let first : L * (s * (M * F)) ≤ B * (s * (M * F)) = mul-le-mul_right (s * (M * F)) h in
    let second : B * (s * (M * F + L * E)) ≤ B * (Q * (L * W)) = mul-le-mul_left B p in
    let third : B * Q * L * W ≤ B * Q * L * V = mul-le-mul_left (B * Q * L) k in
    let all : s * (M * F + B * E) * L ≤ Q * (B * V) * L = omega (arith, first, second, third) in
    le_of_mul-le-mul_right all some

-- the divisor as a fraction is at least V / s, where V is s * B less its error
reaches : (B D F V Y v s : ℕ) → V + F ≡ s * B → B * D ≤ Y + v → v * s ≤ F * D → V * D ≤ Y * s
reaches B D F V Y v s e h k =
    let both : (V + F) * D ≡ s * B * D = ap (λ t. t * D) e in
    let wide : B * D * s ≤ (Y + v) * s = mul-le-mul_right s h in
    omega (arith, both, wide, k)

covers : (M B E F Q V D Y s : ℕ) → 1 ≤ s → s * (M * F + B * E) ≤ Q * (B * V) → V * D ≤ Y * s → (M * F + B * E) * D ≤ Q * B * Y
covers M B E F Q V D Y s one h k =
    let first : s * (M * F + B * E) * D ≤ Q * (B * V) * D = mul-le-mul_right D h in
    let second : Q * B * (V * D) ≤ Q * B * (Y * s) = mul-le-mul_left (Q * B) k in
    let all : (M * F + B * E) * D * s ≤ Q * B * Y * s = omega (arith, first, second) in
    le_of_mul-le-mul_right all one

-- t is how far the rounded quotient times Y is from X, w how far the cross products are apart
gathers : (A M B E F Q D Y u v s t w : ℕ) → 1 ≤ B → A ≤ M → u * s ≤ E * D → v * s ≤ F * D → B * t ≤ B * Y + w → w ≤ A * v + B * u → (M * F + B * E) * D ≤ Q * B * Y → t * s ≤ (Q + s) * Y
gathers A M B E F Q D Y u v s t w some h p q r c k =
    let first : A * (v * s) ≤ M * (F * D) = mul-le-mul h q in
    let second : B * (u * s) ≤ B * (E * D) = mul-le-mul_left B p in
    let near : B * t * s ≤ (B * Y + w) * s = mul-le-mul_right s r in
    let cross : w * s ≤ (A * v + B * u) * s = mul-le-mul_right s c in
    let all : t * s * B ≤ (Q + s) * Y * B = omega (arith, first, second, near, cross, k) in
    le_of_mul-le-mul_right all some

-- ---- over whole numbers

signed_out : (r x y : ℤ) → unsigned_abs (r *ℤ pos (unsigned_abs y) -ℤ with_sign y x) ≡ unsigned_abs (r *ℤ y -ℤ x)
signed_out r x (pos k) = refl
signed_out r x (negsuc k) = rw (as_difference r, as_difference x) (simp differences (omega arith))

rounding_step : (r m n x y : ℤ) → unsigned_abs (r *ℤ n -ℤ m) < unsigned_abs n → unsigned_abs n * unsigned_abs (r *ℤ y -ℤ x) ≤ unsigned_abs n * unsigned_abs y + unsigned_abs (m *ℤ y -ℤ x *ℤ n)
rounding_step r m n x y h =
    let out : unsigned_abs (r *ℤ y *ℤ n -ℤ x *ℤ n) ≡ unsigned_abs (r *ℤ y -ℤ x) * unsigned_abs n = unsigned_abs-sub-mul (r *ℤ y) x n in
    let out' : unsigned_abs (r *ℤ n *ℤ y -ℤ x *ℤ n) ≡ unsigned_abs (r *ℤ y -ℤ x) * unsigned_abs n = rw (int_mul_right_comm r n y) out in
    let way : unsigned_abs (r *ℤ n *ℤ y -ℤ x *ℤ n) ≤ unsigned_abs (r *ℤ n *ℤ y -ℤ m *ℤ y) + unsigned_abs (m *ℤ y -ℤ x *ℤ n) = unsigned_abs-triangle (r *ℤ n *ℤ y) (m *ℤ y) (x *ℤ n) in
    let moved : unsigned_abs (r *ℤ n *ℤ y -ℤ m *ℤ y) ≡ unsigned_abs (r *ℤ n -ℤ m) * unsigned_abs y = unsigned_abs-sub-mul (r *ℤ n) m y in
    let short : unsigned_abs (r *ℤ n -ℤ m) * unsigned_abs y ≤ unsigned_abs n * unsigned_abs y = mul-le-mul_right (unsigned_abs y) (le_of_lt h) in
    omega (arith, out', way, moved, short)

crossed : (m n x y : ℤ) (d : ℕ) → m *ℤ y -ℤ x *ℤ n ≡ m *ℤ (y -ℤ n *ℤ pos d) +ℤ (m *ℤ pos d -ℤ x) *ℤ n
crossed m n x y d = rw (as_difference m, as_difference n, as_difference x, as_difference y) (simp differences (same _ _ _ _ (omega arith)))

cross_step : (m n x y : ℤ) (d : ℕ) → unsigned_abs (m *ℤ y -ℤ x *ℤ n) ≤ unsigned_abs m * unsigned_abs (n *ℤ pos d -ℤ y) + unsigned_abs n * unsigned_abs (m *ℤ pos d -ℤ x)
cross_step m n x y d =
    rw (crossed m n x y d)
    (omega (arith, unsigned_abs-add_le (m *ℤ (y -ℤ n *ℤ pos d)) ((m *ℤ pos d -ℤ x) *ℤ n), unsigned_abs-mul m (y -ℤ n *ℤ pos d), unsigned_abs-mul (m *ℤ pos d -ℤ x) n, ap (λ t. unsigned_abs m * t) (unsigned_abs-sub_comm y (n *ℤ pos d))))

reaches_from : (a b : ℤ) → unsigned_abs a ≤ unsigned_abs b + unsigned_abs (a -ℤ b)
reaches_from a b = rw (as_difference a, as_difference b) (simp differences (omega arith))

divisor_step : (n y : ℤ) (d : ℕ) → unsigned_abs n * d ≤ unsigned_abs y + unsigned_abs (n *ℤ pos d -ℤ y)
divisor_step n y d =
    let way : unsigned_abs (n *ℤ pos d) ≤ unsigned_abs y + unsigned_abs (n *ℤ pos d -ℤ y) = reaches_from (n *ℤ pos d) y in
    rw unsigned_abs-mul_pos at way

-- what is known of the dividend and of the divisor over the denominator d
pub record IsDivision (m n x y : ℤ) (M L E F W d : ℕ) : Type 0 where
  pub positive : 1 ≤ d
  pub top : unsigned_abs m ≤ M
  pub dividend : unsigned_abs (m *ℤ pos d -ℤ x) * 65536 ≤ E * d
  pub least : L ≤ unsigned_abs n
  pub divisor : unsigned_abs (n *ℤ pos d -ℤ y) * 65536 ≤ F * d
  pub some : 1 ≤ L
  pub left : 1 ≤ W
  pub apart : W + F ≡ 65536 * L

division_reaches : (m n x y : ℤ) (M L E F W d : ℕ) → IsDivision m n x y M L E F W d → (65536 * unsigned_abs n - F) * d ≤ unsigned_abs y * 65536
division_reaches m n x y M L E F W d i =
    let big : 65536 * L ≤ 65536 * unsigned_abs n = mul-le-mul_left 65536 i.least in
    let apart = i.apart in
    reaches (unsigned_abs n) d F (65536 * unsigned_abs n - F) (unsigned_abs y) (unsigned_abs (n *ℤ pos d -ℤ y)) 65536 (omega (arith, big, apart)) (divisor_step n y d) i.divisor

pub division_divides : (m n x y : ℤ) (M L E F W d : ℕ) → IsDivision m n x y M L E F W d → 1 ≤ unsigned_abs y
division_divides m n x y M L E F W d i =
    let big : 65536 * L ≤ 65536 * unsigned_abs n = mul-le-mul_left 65536 i.least in
    let apart = i.apart in
    let left = i.left in
    let some : 1 ≤ (65536 * unsigned_abs n - F) * d = mul-pos (omega (arith, big, apart, left)) i.positive in
    let reached : (65536 * unsigned_abs n - F) * d ≤ unsigned_abs y * 65536 = division_reaches m n x y M L E F W d i in
    omega (arith, some, reached)

pub division_numerators : (m n x y r : ℤ) (M L E F W Q d : ℕ) → IsDivision m n x y M L E F W d → 65536 * (M * F + L * E) ≤ Q * (L * W) → unsigned_abs (r *ℤ n -ℤ m) < unsigned_abs n → unsigned_abs (r *ℤ pos (unsigned_abs y) -ℤ with_sign y x) * 65536 ≤ (Q + 65536) * unsigned_abs y
division_numerators m n x y r M L E F W Q d i above h =
    let B = unsigned_abs n in
    let V = 65536 * unsigned_abs n - F in
    let big : 65536 * L ≤ 65536 * unsigned_abs n = mul-le-mul_left 65536 i.least in
    let apart = i.apart in
    let least = i.least in
    let some = i.some in
    let wide : 65536 * (M * F + B * E) ≤ Q * (B * V) = grows M L B E F Q W V 65536 some least (omega (arith, big, apart)) above in
    let covered : (M * F + B * E) * d ≤ Q * B * unsigned_abs y = covers M B E F Q V d (unsigned_abs y) 65536 (omega arith) wide (division_reaches m n x y M L E F W d i) in
    rw (signed_out r x y)
    (gathers (unsigned_abs m) M B E F Q d (unsigned_abs y) (unsigned_abs (m *ℤ pos d -ℤ x)) (unsigned_abs (n *ℤ pos d -ℤ y)) 65536 (unsigned_abs (r *ℤ y -ℤ x)) (unsigned_abs (m *ℤ y -ℤ x *ℤ n)) (omega (arith, some, least)) i.top i.dividend i.divisor (rounding_step r m n x y h) (cross_step m n x y d) covered)

-- a divisor that isn't multiplied
not_raised : (M E F L W Q : ℕ) → 65536 * (M * F + L * E) ≤ Q * (L * W * 2 ^ 0) → 65536 * (M * F + L * E) ≤ Q * (L * W)
not_raised M E F L W Q h = omega (arith, h)

-- ---- over fractions

pub not_zero_case : (f : Fraction) (d : ℕ) (y : ℤ) (t : Bool) → is_zero f ≡ t → Is f d y → 1 ≤ unsigned_abs y → t ≡ false
not_zero_case f d y false e i h = refl
not_zero_case f d y true e i h = absurd (omega (arith, ap unsigned_abs (zero_out {f = f} {d = d} {x = y} e i), h))

-- the quotient of a dividend within `top` and a divisor that may not be 0, rounded to less than one away
pub record Divides (m n : ℤ) (e f : Fraction) (top err : ℤ) (y : Bounds) : Type 0 where
  pub divisor : is_zero f ≡ false
  pub near : (r : ℤ) → unsigned_abs (r *ℤ n -ℤ m) < unsigned_abs n → Near (whole r) (divided e f) (quotient_error 0 top err y)

pub divides : (m n : ℤ) (e f : Fraction) (top err : ℤ) (y : Bounds) → pos 0 ≤ℤ top → unsigned_abs m ≤ unsigned_abs top → Near (whole m) e err → IsWithin y n f → may_be_zero y ≡ false → Divides m n e f top err y
divides m n e f top err y h size p q away =
    let c = common_two e f in
    let least = unsigned_abs (mignitude y) in
    let a : StaysAway y least = stays_away y away in
    let second : Near (whole n) f y.err = record { near = q.near } in
    let positive : pos 0 ≤ℤ y.err = near_positive n y.err f second in
    let error = a.error in
    let F = unsigned_abs y.err in
    let W = 65536 * least - F in
    let left : 1 ≤ W = omega (arith, ints, positive, error) in
    let apart : W + F ≡ 65536 * least = omega (arith, ints, left) in
    let some : 1 ≤ least = omega (arith, left) in
    let i : IsDivision m n c.x c.y (unsigned_abs top) least (unsigned_abs err) F W c.bottom = record {
      positive = c.first.positive;
      top = size;
      dividend = near_numerators m err c.x c.bottom e c.first p;
      least = a.away n (record { low = q.low; high = q.high });
      divisor = near_numerators n y.err c.y c.bottom f c.second second;
      some = some;
      left = left;
      apart = apart;
    } in
    let reached : 1 ≤ unsigned_abs c.y = division_divides _ _ _ _ _ _ _ _ _ _ i in
    let rule = quotient_error_of 0 top err y (unsigned_abs top) (unsigned_abs err) F least W (int_is_natural top h) (int_is_natural err (near_positive m err e p)) (int_is_natural y.err positive) a.is apart some left in
    record {
      divisor = not_zero_case f c.bottom c.y _ refl c.second reached;
      near = λ r k. rw rule.is (numerators_near r (with_sign c.y c.x) (rule.rest + 65536) (unsigned_abs c.y) (divided e f) (is_divided_signed c.y reached c.first c.second) (division_numerators m n c.x c.y r _ _ _ _ _ rule.rest c.bottom i (not_raised (unsigned_abs top) (unsigned_abs err) F least W rule.rest rule.above) k));
    }

-- ---- by powers of two

is_divided_whole : (e : Fraction) (k : ℕ) → 1 ≤ k → Is (divided e (whole (pos k))) (denom e * k) e.numer
is_divided_whole e k p = is_renamed (mul_comm k (denom e)) (is_divided {f = e} {g = whole (pos k)} {d = denom e} {x = e.numer} {n = k * denom e} (mul-pos p (omega arith)) (is_self e) (is_whole (pos k) (denom e) (omega arith)))

-- by 1 nothing is rounded
near_unshifted : (m err : ℤ) (e : Fraction) → Near (whole m) e err → Near (whole (int_div m (pos 1))) (divided e (whole (pos 1))) err
unfolding rounded
near_unshifted m err e p =
    let d = denom e in
    let one : int_div m (pos 1) ≡ m = rounded_by_one Zero m in
    let h : unsigned_abs (m *ℤ pos d -ℤ e.numer) * 65536 ≤ unsigned_abs err * d = near_numerators m err e.numer d e (is_self e) p in
    let i : Is (divided e (whole (pos 1))) d e.numer = is_renamed (omega arith) (is_divided_whole e 1 (omega arith)) in
    rw one (subst (Near (whole m) (divided e (whole (pos 1)))) (sym (int_is_natural err (near_positive m err e p))) (numerators_near m e.numer (unsigned_abs err) d _ i h))

near_narrowed : (m err : ℤ) (e : Fraction) (k : ℕ) → 1 ≤ k → unsigned_abs (int_div m (pos k) *ℤ pos k -ℤ m) < k → Near (whole m) e err → Near (whole (int_div m (pos k))) (divided e (whole (pos k))) (least_quotient_above err (pos k) +ℤ pos 65536)
near_narrowed m err e k some moved p =
    let before : IsNear 65536 (denom e) m e.numer err = record { near = bound_of_error m err e.numer 65536 (denom e) e (omega arith) (is_self e) p.near } in
    let after = near-narrowed 65536 (denom e) k m (int_div m (pos k)) e.numer err (least_quotient_above err (pos k)) moved (least_quotient_above_bounds err (pos k) (int_le-pos _ _ some)).0 before in
    record { near = error_bound _ _ e.numer 65536 (denom e * k) _ (omega arith) (is_divided_whole e k some) after.near }

pub near_shifted : (shift : ℕ) (m err : ℤ) (e : Fraction) → Near (whole m) e err → Near (whole (int_div m (power shift))) (divided e (whole (power shift))) (shifted_error shift err)
unfolding shifted_error
near_shifted zero m err e p = near_unshifted m err e p
near_shifted (suc k) m err e p =
    let some : 1 ≤ 2 ^ suc k = pow_pos (suc k) in
    near_narrowed m err e (2 ^ suc k) some (int_div-error m (power (suc k)) some) p

-- a factor that is a whole number multiplies the error
pub near_scaled : (k : ℕ) (m err : ℤ) (e : Fraction) → Near (whole m) e err → Near (whole (m *ℤ pos k)) (times e (whole (pos k))) (err *ℤ pos k)
near_scaled k m err e p =
    let before : IsNear 65536 (denom e) m e.numer err = record { near = bound_of_error m err e.numer 65536 (denom e) e (omega arith) (is_self e) p.near } in
    let one : Is (whole (pos k)) 1 (pos k) = rw int_mul-one at (is_whole (pos k) 1 (omega arith)) in
    let i : Is (times e (whole (pos k))) (denom e) (e.numer *ℤ pos k) = is_renamed (omega arith) (is_times (is_self e) one) in
    record { near = error_bound _ _ _ 65536 (denom e) _ (omega arith) i (near-times 65536 (denom e) k m e.numer err before).near }
