-- The laws of rounding.
use Rattle.std.proofs.Common.{◌≡◌, ℕ, suc, zero, ◌*◌, ◌<◌, ◌≤◌, ◌/◌, ◌^◌, ℤ, pos, negsuc, ◌+ℤ◌, ◌-ℤ◌, ◌*ℤ◌, neg_ℤ, ◌≤ℤ◌, ◌<ℤ◌, sym, ◌∙◌, ap, subst, arith, div-mul-le_self, le-div_iff_mul-le, mul-le-mul_left}
use Rattle.std.proofs.Math.Nat.{lt-div-mul-add}
use Rattle.std.specs.Prelude.{unsigned_abs, int_div}
use Rattle.std.proofs.lemmas.Int.{ints}
use Rattle.std.proofs.lemmas.Nat.{pow_pos}
use borrow.Author.Differences.{below_in, at_most_in, same_in, lt_out, le_out}
use Rattle.fx_core.specs.declared.quotient.Mode.{Mode}
use Rattle.fx_core.specs.declared.quotient.Mode.TheVariants.{Zero, Floor, Near}
use Rattle.fx_core.specs.Rounding.{IsLeastQuotientAbove, Rounds, floor_quotient, least_quotient_above, power, rounded, shifted_rounded, ShiftRounds}
use Rattle.fx_core.proofs.Integers.{less_of_products, neg-*ℤ, next-*ℤ, products_order, previous-*ℤ}

-- ---- downward

-- the quotient rounded downward is not above n / d, and the next whole number is
pub floor_quotient_bounds : (n : ℤ) (k : ℕ) → pos 1 ≤ℤ pos k → Rounds Floor n (pos k) (floor_quotient n (pos k))
floor_quotient_bounds (pos n) k one =
    let p : zero < k = omega (arith, ints, one) in
    (at_most_in _ _ (omega (arith, ints, div-mul-le_self n k)), rw next-*ℤ (below_in _ _ (omega (arith, ints, lt-div-mul-add {a = n} {b = k} p))))
floor_quotient_bounds (negsuc n) k one =
    let p : zero < k = omega (arith, ints, one) in
    (at_most_in _ _ (omega (arith, ints, lt-div-mul-add {a = n} {b = k} p)), rw next-*ℤ (below_in _ _ (omega (arith, ints, div-mul-le_self n k))))

-- a whole number not above n / d is at most one whose successor is above k / d, where n is at most k
pub floor_order : (n m r s : ℤ) (k : ℕ) → n ≤ℤ m → (r *ℤ pos k) ≤ℤ n → m <ℤ ((s +ℤ pos 1) *ℤ pos k) → r ≤ℤ s
floor_order n m r s k order low high =
    let less : r <ℤ (s +ℤ pos 1) = less_of_products r (s +ℤ pos 1) k (below_in _ _ (omega (arith, le_out _ _ order, le_out _ _ low, lt_out _ _ high))) in
    at_most_in r s (omega (arith, ints, less))

-- there is one such number only
pub floor_quotient_only : (n r s : ℤ) (k : ℕ) → Rounds Floor n (pos k) r → Rounds Floor n (pos k) s → r ≡ s
floor_quotient_only n r s k x y =
    let below : r ≤ℤ s = floor_order n n r s k (at_most_in n n (omega arith)) x.0 y.1 in
    let above : s ≤ℤ r = floor_order n n s r k (at_most_in n n (omega arith)) y.0 x.1 in
    same_in r s (omega (arith, ints, below, above))

-- ---- upward

-- a whole number whose predecessor is below n / d is at most one that is not below it
upward_order : (n r s : ℤ) (k : ℕ) → ((r -ℤ pos 1) *ℤ pos k) <ℤ n → n ≤ℤ (s *ℤ pos k) → r ≤ℤ s
upward_order n r s k low high =
    let less : (r -ℤ pos 1) <ℤ s = less_of_products (r -ℤ pos 1) s k (below_in _ _ (omega (arith, lt_out _ _ low, le_out _ _ high))) in
    at_most_in r s (omega (arith, ints, less))

-- there is one number only that is not below n / d while the number before it is
upward_only : (n r s : ℤ) (k : ℕ) → IsLeastQuotientAbove n (pos k) r → IsLeastQuotientAbove n (pos k) s → r ≡ s
upward_only n r s k x y =
    let below : r ≤ℤ s = upward_order n r s k x.1 y.0 in
    let above : s ≤ℤ r = upward_order n s r k y.1 x.0 in
    same_in r s (omega (arith, ints, below, above))

-- ---- toward zero

-- a natural number over k is rounded upward too where it is 0
zero_upward : (n k : ℕ) → zero < k → pos n ≤ℤ pos 0 → IsLeastQuotientAbove (pos n) (pos k) (pos (n / k))
zero_upward n k p h =
    (at_most_in _ _ (omega (arith, ints, h)), rw previous-*ℤ (below_in _ _ (omega (arith, ints, p, h, div-mul-le_self n k))))

-- the quotient toward zero is rounded downward for n of at least 0, and upward for n of at most 0
pub int_div_bounds : (n : ℤ) (k : ℕ) → pos 1 ≤ℤ pos k → Rounds Zero n (pos k) (int_div n (pos k))
int_div_bounds (pos n) k one =
    (λ _. floor_quotient_bounds (pos n) k one, λ h. zero_upward n k (omega (arith, ints, one)) h)
int_div_bounds (negsuc n) k one =
    let p : zero < k = omega (arith, ints, one) in
    let minus : neg_ℤ (pos (suc n / k)) *ℤ pos k ≡ neg_ℤ (pos (suc n / k) *ℤ pos k) = neg-*ℤ (pos (suc n / k)) k in
    (λ h. absurd h.le, λ _. (at_most_in _ _ (omega (arith, ints, minus, div-mul-le_self (suc n) k)), rw previous-*ℤ (below_in _ _ (omega (arith, ints, minus, lt-div-mul-add {a = suc n} {b = k} p)))))

-- there is one such number only
pub int_div_only : (n r s : ℤ) (k : ℕ) → Rounds Zero n (pos k) r → Rounds Zero n (pos k) s → r ≡ s
int_div_only (pos n) r s k x y =
    let h : pos 0 ≤ℤ pos n = at_most_in _ _ (omega arith) in
    floor_quotient_only (pos n) r s k (x.0 h) (y.0 h)
int_div_only (negsuc n) r s k x y =
    let h : negsuc n ≤ℤ pos 0 = at_most_in _ _ (omega (arith, ints)) in
    upward_only (negsuc n) r s k (x.1 h) (y.1 h)

-- a greater dividend has no smaller quotient
div_order : (n m k : ℕ) → zero < k → n ≤ m → n / k ≤ m / k
div_order n m k p h = (le-div_iff_mul-le {k = k} {x = n / k} {y = m} p).1 (omega (arith, div-mul-le_self n k))

-- the quotient toward zero keeps the order
pub int_div_order : (n m : ℤ) (k : ℕ) → pos 1 ≤ℤ pos k → n ≤ℤ m → int_div n (pos k) ≤ℤ int_div m (pos k)
int_div_order (pos n) (pos m) k one order =
    let h : n / k ≤ m / k = div_order n m k (omega (arith, ints, one)) (omega (arith, ints, order)) in
    at_most_in _ _ (omega arith)
int_div_order (pos n) (negsuc m) k one order = absurd order.le
int_div_order (negsuc n) (pos m) k one order = at_most_in _ _ (omega (arith, ints))
int_div_order (negsuc n) (negsuc m) k one order =
    let h : suc m / k ≤ suc n / k = div_order (suc m) (suc n) k (omega (arith, ints, one)) (omega (arith, ints, order)) in
    at_most_in _ _ (omega (arith, ints))

-- ---- to the nearest

-- r is the nearest to n / d where it is the quotient of 2n + d by 2d rounded downward, and the other way round
near_from_floor : (n r : ℤ) (k : ℕ) → Rounds Floor (pos 2 *ℤ n +ℤ pos k) (pos (2 * k)) r → Rounds Near n (pos k) r
near_from_floor n r k (low, high) =
    let next : (r +ℤ pos 1) *ℤ pos (2 * k) ≡ r *ℤ pos (2 * k) +ℤ pos (2 * k) = next-*ℤ r (pos (2 * k)) in
    let high' = rw next at high in
    (below_in _ _ (omega (arith, ints, high')), at_most_in _ _ (omega (arith, ints, low)))

floor_from_near : (n r : ℤ) (k : ℕ) → Rounds Near n (pos k) r → Rounds Floor (pos 2 *ℤ n +ℤ pos k) (pos (2 * k)) r
floor_from_near n r k (low, high) =
    (at_most_in _ _ (omega (arith, ints, high)), rw next-*ℤ (below_in _ _ (omega (arith, ints, low))))

-- the quotient of 2n + d by 2d rounded downward is the nearest to n / d
pub near_bounds : (n : ℤ) (k : ℕ) → pos 1 ≤ℤ pos k → Rounds Near n (pos k) (floor_quotient (pos 2 *ℤ n +ℤ pos k) (pos 2 *ℤ pos k))
near_bounds n k one = near_from_floor n _ k (floor_quotient_bounds (pos 2 *ℤ n +ℤ pos k) (2 * k) (at_most_in _ _ (omega (arith, ints, one))))

-- there is one such number only
pub near_only : (n r s : ℤ) (k : ℕ) → Rounds Near n (pos k) r → Rounds Near n (pos k) s → r ≡ s
near_only n r s k x y = floor_quotient_only (pos 2 *ℤ n +ℤ pos k) r s (2 * k) (floor_from_near n r k x) (floor_from_near n s k y)

-- ---- every mode

-- the function rounds
pub rounds-rounded : (m : Mode) (n d : ℤ) → pos 1 ≤ℤ d → Rounds m n d (rounded m n d)
unfolding rounded
rounds-rounded m n (negsuc k) one = absurd one.le
rounds-rounded Zero n (pos k) one = int_div_bounds n k one
rounds-rounded Floor n (pos k) one = floor_quotient_bounds n k one
rounds-rounded Near n (pos k) one = near_bounds n k one

-- there is one number only that n / d is rounded to
pub rounds_once : (m : Mode) (n d r s : ℤ) → pos 1 ≤ℤ d → Rounds m n d r → Rounds m n d s → r ≡ s
rounds_once m n (negsuc k) r s one x y = absurd one.le
rounds_once Zero n (pos k) r s one x y = int_div_only n r s k x y
rounds_once Floor n (pos k) r s one x y = floor_quotient_only n r s k x y
rounds_once Near n (pos k) r s one x y = near_only n r s k x y

-- so what rounds is the function's number
pub rounded_from_rounds : (m : Mode) (n d r : ℤ) → pos 1 ≤ℤ d → Rounds m n d r → r ≡ rounded m n d
rounded_from_rounds m n d r one h = rounds_once m n d r (rounded m n d) one h (rounds-rounded m n d one)

-- rounding keeps the order of the dividends
pub rounded_monotone : (m : Mode) (n p d : ℤ) → pos 1 ≤ℤ d → n ≤ℤ p → rounded m n d ≤ℤ rounded m p d
unfolding rounded
rounded_monotone m n p (negsuc k) one order = absurd one.le
rounded_monotone Zero n p (pos k) one order = int_div_order n p k one order
rounded_monotone Floor n p (pos k) one order =
    floor_order n p _ _ k order (floor_quotient_bounds n k one).0 (floor_quotient_bounds p k one).1
rounded_monotone Near n p (pos k) one order =
    let two : pos 1 ≤ℤ pos (2 * k) = at_most_in _ _ (omega (arith, ints, one)) in
    let more : (pos 2 *ℤ n +ℤ pos k) ≤ℤ (pos 2 *ℤ p +ℤ pos k) = at_most_in _ _ (omega (arith, ints, order)) in
    floor_order _ _ _ _ (2 * k) more (floor_quotient_bounds (pos 2 *ℤ n +ℤ pos k) (2 * k) two).0 (floor_quotient_bounds (pos 2 *ℤ p +ℤ pos k) (2 * k) two).1

-- a whole number is its own rounding
rounds_whole : (m : Mode) (z : ℤ) (k : ℕ) → pos 1 ≤ℤ pos k → Rounds m (z *ℤ pos k) (pos k) z
rounds_whole Zero z k one = (
  (λ _. (at_most_in _ _ (omega arith), rw next-*ℤ (below_in _ _ (omega (arith, ints, one))))),
  (λ _. (at_most_in _ _ (omega arith), rw previous-*ℤ (below_in _ _ (omega (arith, ints, one))))),
)
rounds_whole Floor z k one = (at_most_in _ _ (omega arith), rw next-*ℤ (below_in _ _ (omega (arith, ints, one))))
rounds_whole Near z k one = (below_in _ _ (omega (arith, ints, one)), at_most_in _ _ (omega (arith, ints, one)))

-- so a multiple of the divisor loses nothing
pub rounded-*ℤ : (m : Mode) (z d : ℤ) → pos 1 ≤ℤ d → rounded m (z *ℤ d) d ≡ z
rounded-*ℤ m z (negsuc k) one = absurd one.le
rounded-*ℤ m z (pos k) one = sym (rounded_from_rounds m (z *ℤ pos k) (pos k) z one (rounds_whole m z k one))

-- a product with 1
times_one : (n : ℤ) → n *ℤ pos 1 ≡ n
times_one n = omega (arith, ints)

-- nor does a quotient by 1
pub rounded_by_one : (m : Mode) (n : ℤ) → rounded m n (pos 1) ≡ n
rounded_by_one m n = ap (λ t. rounded m t (pos 1)) (sym (times_one n)) ∙ rounded-*ℤ m n (pos 1) (at_most_in _ _ (omega arith))

-- what a whole number bounds, it bounds when rounded
pub rounded_above : (m : Mode) (n d z : ℤ) → pos 1 ≤ℤ d → (z *ℤ d) ≤ℤ n → z ≤ℤ rounded m n d
rounded_above m n d z one h =
    subst (λ t. t ≤ℤ rounded m n d) (rounded-*ℤ m z d one) (rounded_monotone m (z *ℤ d) n d one h)

pub rounded_below : (m : Mode) (n d z : ℤ) → pos 1 ≤ℤ d → n ≤ℤ (z *ℤ d) → rounded m n d ≤ℤ z
rounded_below m n d z one h =
    subst (λ t. rounded m n d ≤ℤ t) (rounded-*ℤ m z d one) (rounded_monotone m n (z *ℤ d) d one h)

-- rounding makes no absolute value greater
pub unsigned_abs-rounded : (m : Mode) (n d : ℤ) → pos 1 ≤ℤ d → unsigned_abs (rounded m n d) ≤ unsigned_abs n
unsigned_abs-rounded m n (negsuc k) one = absurd one.le
unsigned_abs-rounded m (pos n) (pos k) one =
    let grows : n * 1 ≤ n * k = mul-le-mul_left n (omega (arith, ints, one)) in
    let low : pos 0 ≤ℤ rounded m (pos n) (pos k) = rounded_above m (pos n) (pos k) (pos 0) one (at_most_in _ _ (omega arith)) in
    let high : rounded m (pos n) (pos k) ≤ℤ pos n = rounded_below m (pos n) (pos k) (pos n) one (at_most_in _ _ (omega arith)) in
    omega (arith, ints, low, high)
unsigned_abs-rounded m (negsuc n) (pos k) one =
    let grows : suc n * 1 ≤ suc n * k = mul-le-mul_left (suc n) (omega (arith, ints, one)) in
    let low : negsuc n ≤ℤ rounded m (negsuc n) (pos k) = rounded_above m (negsuc n) (pos k) (negsuc n) one (at_most_in _ _ (omega (arith, ints))) in
    let high : rounded m (negsuc n) (pos k) ≤ℤ pos 0 = rounded_below m (negsuc n) (pos k) (pos 0) one (at_most_in _ _ (omega arith)) in
    omega (arith, ints, low, high)

-- ---- how far the rounded number is from n / d, over the numerators

-- downward, upward, toward zero and to the nearest: the product of r with the divisor against n
floor_error : (n r : ℤ) (k : ℕ) → Rounds Floor n (pos k) r → unsigned_abs (r *ℤ pos k -ℤ n) < k
floor_error n r k (low, high) =
    let next : (r +ℤ pos 1) *ℤ pos k ≡ r *ℤ pos k +ℤ pos k = next-*ℤ r (pos k) in
    let high' = rw next at high in
    omega (arith, ints, low, high')

upward_error : (n r : ℤ) (k : ℕ) → IsLeastQuotientAbove n (pos k) r → unsigned_abs (r *ℤ pos k -ℤ n) < k
upward_error n r k (low, high) =
    let before : (r -ℤ pos 1) *ℤ pos k ≡ r *ℤ pos k -ℤ pos k = previous-*ℤ r (pos k) in
    let high' = rw before at high in
    omega (arith, ints, low, high')

zero_error : (n r : ℤ) (k : ℕ) → Rounds Zero n (pos k) r → unsigned_abs (r *ℤ pos k -ℤ n) < k
zero_error (pos n) r k x = floor_error (pos n) r k (x.0 (at_most_in _ _ (omega arith)))
zero_error (negsuc n) r k x = upward_error (negsuc n) r k (x.1 (at_most_in _ _ (omega (arith, ints))))

near_error : (n r : ℤ) (k : ℕ) → Rounds Near n (pos k) r → 2 * unsigned_abs (r *ℤ pos k -ℤ n) ≤ k
near_error n r k (low, high) = omega (arith, ints, low, high)

-- toward zero and downward it is less than one away
pub rounded-error : (m : Mode) (n d : ℤ) → pos 1 ≤ℤ d → unsigned_abs (rounded m n d *ℤ d -ℤ n) < unsigned_abs d
rounded-error m n (negsuc k) one = absurd one.le
rounded-error Zero n (pos k) one = zero_error n _ k (rounds-rounded Zero n (pos k) one)
rounded-error Floor n (pos k) one = floor_error n _ k (rounds-rounded Floor n (pos k) one)
rounded-error Near n (pos k) one = omega (arith, ints, one, near_error n _ k (rounds-rounded Near n (pos k) one))

-- to the nearest it is at most a half away
pub rounded-error_near : (n d : ℤ) → pos 1 ≤ℤ d → 2 * unsigned_abs (rounded Near n d *ℤ d -ℤ n) ≤ unsigned_abs d
rounded-error_near n (negsuc k) one = absurd one.le
rounded-error_near n (pos k) one = near_error n _ k (rounds-rounded Near n (pos k) one)

-- ---- the least whole number not below a quotient

-- the number before a quotient rounded downward, with the sign turned
turned : (n r : ℤ) (k : ℕ) → Rounds Floor (neg_ℤ n) (pos k) r → IsLeastQuotientAbove n (pos k) (neg_ℤ r)
turned n r k (low, high) =
    let next : (r +ℤ pos 1) *ℤ pos k ≡ r *ℤ pos k +ℤ pos k = next-*ℤ r (pos k) in
    let high' = rw next at high in
    let minus : neg_ℤ r *ℤ pos k ≡ neg_ℤ (r *ℤ pos k) = neg-*ℤ r k in
    (at_most_in _ _ (omega (arith, ints, low, minus)), rw previous-*ℤ (below_in _ _ (omega (arith, ints, high', minus))))

-- the function gives the least whole number not below n / d
pub least_quotient_above_bounds : (n d : ℤ) → pos 1 ≤ℤ d → IsLeastQuotientAbove n d (least_quotient_above n d)
unfolding least_quotient_above
least_quotient_above_bounds n (negsuc k) one = absurd one.le
least_quotient_above_bounds n (pos k) one = turned n _ k (floor_quotient_bounds (neg_ℤ n) k one)

-- there is one such number only
pub least_quotient_above_only : (n d r s : ℤ) → pos 1 ≤ℤ d → IsLeastQuotientAbove n d r → IsLeastQuotientAbove n d s → r ≡ s
least_quotient_above_only n (negsuc k) r s one x y = absurd one.le
least_quotient_above_only n (pos k) r s one x y = upward_only n r s k x y

-- so what has the property is the function's number
pub least_quotient_above_from_bounds : (n d r : ℤ) → pos 1 ≤ℤ d → IsLeastQuotientAbove n d r → r ≡ least_quotient_above n d
least_quotient_above_from_bounds n d r one h =
    least_quotient_above_only n d r (least_quotient_above n d) one h (least_quotient_above_bounds n d one)

-- ---- shifts

-- a power of two is at least 1
power_positive : (k : ℕ) → pos 1 ≤ℤ power k
power_positive k = at_most_in _ _ (omega (arith, pow_pos k))

-- the function of shifts rounds
pub shift_rounds-shifted_rounded : (m : Mode) (n e : ℤ) → ShiftRounds m n e (shifted_rounded m n e)
unfolding shifted_rounded
shift_rounds-shifted_rounded m n (pos e) =
    subst (Rounds m (n *ℤ power e) (pos 1)) (rounded_by_one m (n *ℤ power e)) (rounds-rounded m (n *ℤ power e) (pos 1) (at_most_in _ _ (omega arith)))
shift_rounds-shifted_rounded m n (negsuc e) = rounds-rounded m n (power (suc e)) (power_positive (suc e))

-- a shift keeps the order
pub shifted_rounded_monotone : (m : Mode) (n p e : ℤ) → n ≤ℤ p → shifted_rounded m n e ≤ℤ shifted_rounded m p e
unfolding shifted_rounded
shifted_rounded_monotone m n p (pos e) order =
    subst (λ t. t ≤ℤ (p *ℤ power e)) (rounded_by_one m (n *ℤ power e)) (rounded_below m (n *ℤ power e) (pos 1) (p *ℤ power e) (at_most_in _ _ (omega arith)) (rw (times_one (p *ℤ power e)) (products_order n p (2 ^ e) order)))
shifted_rounded_monotone m n p (negsuc e) order = rounded_monotone m n p (power (suc e)) (power_positive (suc e)) order
