-- The laws of sums, products, orders and absolute values of whole numbers that proofs cite most. What is missing is one line by `Polynomials`.
use Rattle.std.specs.Prelude.{◌≡◌, ℕ, ◌+◌, ◌*◌, ◌≤◌, ◌<◌, ◌⊎◌, ℤ, pos, negsuc, ◌+ℤ◌, ◌-ℤ◌, ◌*ℤ◌, neg_ℤ, ◌≤ℤ◌, ◌<ℤ◌, unsigned_abs, true, false, int_le, int_lt}
use Rattle.std.specs.Int.{int_min, int_max}
use Rattle.std.proofs.Common.{mul-le-mul_left, max, min, refl, sym, ap, ◌∙◌, arith, inl, inr, le_of_mul-le-mul_right, lt_of_mul-lt-mul_right, mul-le-mul_right, mul-lt-mul_of_pos_right}
use Rattle.std.proofs.lemmas.Int.{by_lt_z, ints, clamps}
pub use Rattle.std.proofs.lemmas.Int.{unsigned_abs-mul}
use Rattle.fx_fraction.proofs.Polynomials.{differences, as_difference, same, at_most, below, at_most_naturals, below_naturals}
use borrow.Author.Differences.{at_most_in, below_in, le-true, le-false, lt-true, lt-false, up, down}

-- ---- sums and products

pub int_add_comm : (a b : ℤ) → a +ℤ b ≡ b +ℤ a
int_add_comm a b = rw (as_difference a, as_difference b) (simp differences (same _ _ _ _ (omega arith)))

pub int_add_assoc : (a b c : ℤ) → a +ℤ b +ℤ c ≡ a +ℤ (b +ℤ c)
int_add_assoc a b c = rw (as_difference a, as_difference b, as_difference c) (simp differences (same _ _ _ _ (omega arith)))

pub int_mul_comm : (a b : ℤ) → a *ℤ b ≡ b *ℤ a
int_mul_comm a b = rw (as_difference a, as_difference b) (simp differences (same _ _ _ _ (omega arith)))

pub int_mul_assoc : (a b c : ℤ) → a *ℤ b *ℤ c ≡ a *ℤ (b *ℤ c)
int_mul_assoc a b c = rw (as_difference a, as_difference b, as_difference c) (simp differences (same _ _ _ _ (omega arith)))

-- the last two of three factors change places
pub int_mul_right_comm : (a b c : ℤ) → a *ℤ b *ℤ c ≡ a *ℤ c *ℤ b
int_mul_right_comm a b c = rw (as_difference a, as_difference b, as_difference c) (simp differences (same _ _ _ _ (omega arith)))

pub int_mul-add : (a b c : ℤ) → a *ℤ (b +ℤ c) ≡ a *ℤ b +ℤ a *ℤ c
int_mul-add a b c = rw (as_difference a, as_difference b, as_difference c) (simp differences (same _ _ _ _ (omega arith)))

pub int_add-mul : (a b c : ℤ) → (a +ℤ b) *ℤ c ≡ a *ℤ c +ℤ b *ℤ c
int_add-mul a b c = rw (as_difference a, as_difference b, as_difference c) (simp differences (same _ _ _ _ (omega arith)))

pub int_mul-sub : (a b c : ℤ) → a *ℤ (b -ℤ c) ≡ a *ℤ b -ℤ a *ℤ c
int_mul-sub a b c = rw (as_difference a, as_difference b, as_difference c) (simp differences (same _ _ _ _ (omega arith)))

pub int_sub-mul : (a b c : ℤ) → (a -ℤ b) *ℤ c ≡ a *ℤ c -ℤ b *ℤ c
int_sub-mul a b c = rw (as_difference a, as_difference b, as_difference c) (simp differences (same _ _ _ _ (omega arith)))

pub int_neg-mul : (a b : ℤ) → neg_ℤ a *ℤ b ≡ neg_ℤ (a *ℤ b)
int_neg-mul a b = rw (as_difference a, as_difference b) (simp differences (same _ _ _ _ (omega arith)))

pub int_mul-neg : (a b : ℤ) → a *ℤ neg_ℤ b ≡ neg_ℤ (a *ℤ b)
int_mul-neg a b = rw (as_difference a, as_difference b) (simp differences (same _ _ _ _ (omega arith)))

pub int_mul-one : (a : ℤ) → a *ℤ pos 1 ≡ a
int_mul-one a = rw (as_difference a) (simp differences (same _ _ _ _ (omega arith)))

pub int_sub_self : (a : ℤ) → a -ℤ a ≡ pos 0
int_sub_self a = rw (as_difference a) (simp differences (same _ _ _ _ (omega arith)))

-- ---- order

pub int_le_refl : (a : ℤ) → a ≤ℤ a
int_le_refl a = rw (as_difference a) (at_most _ _ _ _ (omega arith))

pub int_le_of-eq : (a b : ℤ) → a ≡ b → a ≤ℤ b
int_le_of-eq a b e = rw e (int_le_refl b)

naturals_of_le : (a b : ℤ) → a ≤ℤ b → up a + down b ≤ up b + down a
naturals_of_le a b h = at_most_naturals _ _ _ _ (rw (as_difference a, as_difference b) at h)

naturals_of_lt : (a b : ℤ) → a <ℤ b → up a + down b < up b + down a
naturals_of_lt a b h = below_naturals _ _ _ _ (rw (as_difference a, as_difference b) at h)

pub int_le_trans : (a b c : ℤ) → a ≤ℤ b → b ≤ℤ c → a ≤ℤ c
int_le_trans a b c h k = rw (as_difference a, as_difference c) (at_most _ _ _ _ (omega (arith, naturals_of_le a b h, naturals_of_le b c k)))

pub int_le-lt_trans : (a b c : ℤ) → a ≤ℤ b → b <ℤ c → a <ℤ c
int_le-lt_trans a b c h k = rw (as_difference a, as_difference c) (below _ _ _ _ (omega (arith, naturals_of_le a b h, naturals_of_lt b c k)))

pub int_lt-le_trans : (a b c : ℤ) → a <ℤ b → b ≤ℤ c → a <ℤ c
int_lt-le_trans a b c h k = rw (as_difference a, as_difference c) (below _ _ _ _ (omega (arith, naturals_of_lt a b h, naturals_of_le b c k)))

pub int_le_of-lt : (a b : ℤ) → a <ℤ b → a ≤ℤ b
int_le_of-lt a b h = rw (as_difference a, as_difference b) (at_most _ _ _ _ (omega (arith, naturals_of_lt a b h)))

pub int_le_antisymm : (a b : ℤ) → a ≤ℤ b → b ≤ℤ a → a ≡ b
int_le_antisymm a b h k = rw (as_difference a, as_difference b) (same _ _ _ _ (omega (arith, naturals_of_le a b h, naturals_of_le b a k)))

-- two numbers are in one order or the other
pub int_lt_or_le : (a b : ℤ) → (a <ℤ b) ⊎ (b ≤ℤ a)
int_lt_or_le a b = by_lt_z a b inl inr

-- what a test says
pub int_le-true : (a b : ℤ) → int_le a b ≡ true → a ≤ℤ b
int_le-true a b e = at_most_in a b (le-true a b e)

pub int_le-false : (a b : ℤ) → int_le a b ≡ false → b <ℤ a
int_le-false a b e = below_in b a (le-false a b e)

pub int_lt-true : (a b : ℤ) → int_lt a b ≡ true → a <ℤ b
int_lt-true a b e = below_in a b (lt-true a b e)

pub int_lt-false : (a b : ℤ) → int_lt a b ≡ false → b ≤ℤ a
int_lt-false a b e = at_most_in b a (lt-false a b e)

-- orders are added
pub int_le-add : (a b c d : ℤ) → a ≤ℤ b → c ≤ℤ d → (a +ℤ c) ≤ℤ (b +ℤ d)
int_le-add a b c d h k = rw (as_difference a, as_difference b, as_difference c, as_difference d) (simp differences (at_most _ _ _ _ (omega (arith, naturals_of_le a b h, naturals_of_le c d k))))

-- the numbers that are taken away are in the other order
pub int_le-sub : (a b c d : ℤ) → a ≤ℤ b → d ≤ℤ c → (a -ℤ c) ≤ℤ (b -ℤ d)
int_le-sub a b c d h k = rw (as_difference a, as_difference b, as_difference c, as_difference d) (simp differences (at_most _ _ _ _ (omega (arith, naturals_of_le a b h, naturals_of_le d c k))))

-- a natural is not negative, and their order is that of the whole numbers
pub int_le-pos : (m n : ℕ) → m ≤ n → pos m ≤ℤ pos n
int_le-pos m n h = simp differences (at_most _ _ _ _ (omega arith))

pub le_of-int_le : (m n : ℕ) → pos m ≤ℤ pos n → m ≤ n
le_of-int_le m n h = omega (arith, naturals_of_le (pos m) (pos n) h)

-- ---- a factor in an order

-- a factor that is a natural keeps the order
pub int_le-mul_pos : (a b : ℤ) (n : ℕ) → a ≤ℤ b → (a *ℤ pos n) ≤ℤ (b *ℤ pos n)
int_le-mul_pos a b n h =
    let k = mul-le-mul_right n (naturals_of_le a b h) in
    rw (as_difference a, as_difference b) (simp differences (at_most _ _ _ _ (omega (arith, k))))

pub int_lt-mul_pos : (a b : ℤ) (n : ℕ) → 1 ≤ n → a <ℤ b → (a *ℤ pos n) <ℤ (b *ℤ pos n)
int_lt-mul_pos a b n p h =
    let k = mul-lt-mul_of_pos_right (naturals_of_lt a b h) p in
    rw (as_difference a, as_difference b) (simp differences (below _ _ _ _ (omega (arith, k))))

-- a factor that is at least 1 is cancelled
pub int_le_of-mul : (a b : ℤ) (n : ℕ) → 1 ≤ n → (a *ℤ pos n) ≤ℤ (b *ℤ pos n) → a ≤ℤ b
int_le_of-mul a b n p h =
    let k = at_most_naturals _ _ _ _ (simp differences at (rw (as_difference a, as_difference b) at h)) in
    let q : (up a + down b) * n ≤ (up b + down a) * n = omega (arith, k) in
    rw (as_difference a, as_difference b) (at_most _ _ _ _ (le_of_mul-le-mul_right q p))

pub int_lt_of-mul : (a b : ℤ) (n : ℕ) → (a *ℤ pos n) <ℤ (b *ℤ pos n) → a <ℤ b
int_lt_of-mul a b n h =
    let k = below_naturals _ _ _ _ (simp differences at (rw (as_difference a, as_difference b) at h)) in
    let q : (up a + down b) * n < (up b + down a) * n = omega (arith, k) in
    rw (as_difference a, as_difference b) (below _ _ _ _ (lt_of_mul-lt-mul_right n q))

pub int_eq_of-mul : (a b : ℤ) (n : ℕ) → 1 ≤ n → a *ℤ pos n ≡ b *ℤ pos n → a ≡ b
int_eq_of-mul a b n p e = int_le_antisymm a b
    (int_le_of-mul a b n p (int_le_of-eq _ _ e)) (int_le_of-mul b a n p (rw e (int_le_refl _)))

-- a number that is not negative is a natural
pub int_is_natural : (k : ℤ) → pos 0 ≤ℤ k → k ≡ pos (unsigned_abs k)
int_is_natural (pos n) h = refl
int_is_natural (negsuc n) h = absurd h.le

-- so a factor that is not negative keeps the order
pub int_le-mul : (a b k : ℤ) → a ≤ℤ b → pos 0 ≤ℤ k → (a *ℤ k) ≤ℤ (b *ℤ k)
int_le-mul a b k h p = rw (int_is_natural k p) (int_le-mul_pos a b (unsigned_abs k) h)

-- and a factor that is not above 0 turns it round
pub int_le-mul_reversed : (a b k : ℤ) → a ≤ℤ b → k ≤ℤ pos 0 → (b *ℤ k) ≤ℤ (a *ℤ k)
int_le-mul_reversed a b k h p =
    let n = int_le-mul a b (neg_ℤ k) h (omega (arith, ints)) in
    omega (arith, ints, n, int_mul-neg a k, int_mul-neg b k)

pub int_mul_not_negative : (a b : ℤ) → pos 0 ≤ℤ a → pos 0 ≤ℤ b → pos 0 ≤ℤ (a *ℤ b)
int_mul_not_negative a b h k = rw (int_is_natural a h, int_is_natural b k) (int_le-pos 0 _ (omega arith))

-- ---- absolute values

pub unsigned_abs-mul_pos : (a : ℤ) (n : ℕ) → unsigned_abs (a *ℤ pos n) ≡ unsigned_abs a * n
unsigned_abs-mul_pos a n = unsigned_abs-mul a (pos n)

pub zero_from-unsigned_abs : (a : ℤ) → unsigned_abs a ≡ 0 → a ≡ pos 0
zero_from-unsigned_abs (pos n) e = ap pos e
zero_from-unsigned_abs (negsuc n) e = absurd (omega arith)

pub unsigned_abs-neg : (a : ℤ) → unsigned_abs (neg_ℤ a) ≡ unsigned_abs a
unsigned_abs-neg a = rw (as_difference a) (simp differences (omega arith))

-- two numbers are as far apart one way round as the other
pub unsigned_abs-sub_comm : (a b : ℤ) → unsigned_abs (a -ℤ b) ≡ unsigned_abs (b -ℤ a)
unsigned_abs-sub_comm a b = rw (as_difference a, as_difference b) (simp differences (omega arith))

pub unsigned_abs-sub_self : (a : ℤ) → unsigned_abs (a -ℤ a) ≡ 0
unsigned_abs-sub_self a = ap unsigned_abs (int_sub_self a)

-- the absolute value of a sum, or of a difference, is at most the sum of the two
pub unsigned_abs-add_le : (a b : ℤ) → unsigned_abs (a +ℤ b) ≤ unsigned_abs a + unsigned_abs b
unsigned_abs-add_le a b = rw (as_difference a, as_difference b) (simp differences (omega arith))

pub unsigned_abs-sub_le : (a b : ℤ) → unsigned_abs (a -ℤ b) ≤ unsigned_abs a + unsigned_abs b
unsigned_abs-sub_le a b = rw (as_difference a, as_difference b) (simp differences (omega arith))

-- the way round by b is no shorter
pub unsigned_abs-triangle : (a b c : ℤ) → unsigned_abs (a -ℤ c) ≤ unsigned_abs (a -ℤ b) + unsigned_abs (b -ℤ c)
unsigned_abs-triangle a b c = rw (as_difference a, as_difference b, as_difference c) (simp differences (omega arith))

-- sums, and differences, are no further apart than their parts together
pub unsigned_abs-sub-add_le : (a b c d : ℤ) → unsigned_abs (a +ℤ b -ℤ (c +ℤ d)) ≤ unsigned_abs (a -ℤ c) + unsigned_abs (b -ℤ d)
unsigned_abs-sub-add_le a b c d = rw (as_difference a, as_difference b, as_difference c, as_difference d) (simp differences (omega arith))

pub unsigned_abs-sub-sub_le : (a b c d : ℤ) → unsigned_abs (a -ℤ b -ℤ (c -ℤ d)) ≤ unsigned_abs (a -ℤ c) + unsigned_abs (b -ℤ d)
unsigned_abs-sub-sub_le a b c d = rw (as_difference a, as_difference b, as_difference c, as_difference d) (simp differences (omega arith))

-- a fixed factor goes out of a distance
pub unsigned_abs-sub-mul : (a b k : ℤ) → unsigned_abs (a *ℤ k -ℤ b *ℤ k) ≡ unsigned_abs (a -ℤ b) * unsigned_abs k
unsigned_abs-sub-mul a b k = ap unsigned_abs (sym (int_sub-mul a b k)) ∙ unsigned_abs-mul (a -ℤ b) k

-- a number lies between the two numbers with its absolute value
pub int_le-unsigned_abs : (a : ℤ) → a ≤ℤ pos (unsigned_abs a)
int_le-unsigned_abs a = rw (as_difference a) (simp differences (at_most _ _ _ _ (omega arith)))

pub int_neg-unsigned_abs_le : (a : ℤ) → neg_ℤ (pos (unsigned_abs a)) ≤ℤ a
int_neg-unsigned_abs_le a = rw (as_difference a) (simp differences (at_most _ _ _ _ (omega arith)))

-- and one between -n and n has an absolute value of n at most
pub unsigned_abs_le : (a : ℤ) (n : ℕ) → neg_ℤ (pos n) ≤ℤ a → a ≤ℤ pos n → unsigned_abs a ≤ n
unsigned_abs_le (pos m) n l h = le_of-int_le m n h
unsigned_abs_le (negsuc m) n l h = omega (arith, ints, l)

-- the absolute value raises no distance
pub unsigned_abs-sub-abs_le : (a b : ℤ) → unsigned_abs (pos (unsigned_abs a) -ℤ pos (unsigned_abs b)) ≤ unsigned_abs (a -ℤ b)
unsigned_abs-sub-abs_le a b = rw (as_difference a, as_difference b) (simp differences (omega arith))

-- the smaller, or the larger, of two is moved by no more than one of the two
pub unsigned_abs-sub-min_le : (a b c d : ℤ) → unsigned_abs (int_min a b -ℤ int_min c d) ≤ max (unsigned_abs (a -ℤ c)) (unsigned_abs (b -ℤ d))
unsigned_abs-sub-min_le a b c d = omega (arith, ints, clamps)

pub int_max-pos : (m n : ℕ) → int_max (pos m) (pos n) ≡ pos (max m n)
int_max-pos m n = omega (arith, ints, clamps)

pub int_min-pos : (m n : ℕ) → int_min (pos m) (pos n) ≡ pos (min m n)
int_min-pos m n = omega (arith, ints, clamps)

pub unsigned_abs-sub-max_le : (a b c d : ℤ) → unsigned_abs (int_max a b -ℤ int_max c d) ≤ max (unsigned_abs (a -ℤ c)) (unsigned_abs (b -ℤ d))
unsigned_abs-sub-max_le a b c d = omega (arith, ints, clamps)

-- a product is moved by each factor's move, times the other factor, and by the product of the moves
product_step : (a b c d : ℤ) → a *ℤ b -ℤ c *ℤ d ≡ a *ℤ (b -ℤ d) +ℤ (a -ℤ c) *ℤ d
product_step a b c d = rw (as_difference a, as_difference b, as_difference c, as_difference d) (simp differences (same _ _ _ _ (omega arith)))

second_bound : (b d : ℤ) → unsigned_abs d ≤ unsigned_abs b + unsigned_abs (b -ℤ d)
second_bound b d = rw (as_difference b, as_difference d) (simp differences (omega arith))

pub unsigned_abs-sub-products_le : (a b c d : ℤ) → unsigned_abs (a *ℤ b -ℤ c *ℤ d) ≤ unsigned_abs a * unsigned_abs (b -ℤ d) + unsigned_abs b * unsigned_abs (a -ℤ c) + unsigned_abs (a -ℤ c) * unsigned_abs (b -ℤ d)
unsigned_abs-sub-products_le a b c d =
    rw (product_step a b c d)
    (omega (arith, unsigned_abs-add_le (a *ℤ (b -ℤ d)) ((a -ℤ c) *ℤ d), unsigned_abs-mul a (b -ℤ d), unsigned_abs-mul (a -ℤ c) d, mul-le-mul_left (unsigned_abs (a -ℤ c)) (second_bound b d)))

-- the numerator of a difference of two quotients
crossed_step : (a b c d : ℤ) → a *ℤ d -ℤ c *ℤ b ≡ a *ℤ (d -ℤ b) +ℤ b *ℤ (a -ℤ c)
crossed_step a b c d = rw (as_difference a, as_difference b, as_difference c, as_difference d) (simp differences (same _ _ _ _ (omega arith)))

pub unsigned_abs-sub-crossed_le : (a b c d : ℤ) → unsigned_abs (a *ℤ d -ℤ c *ℤ b) ≤ unsigned_abs a * unsigned_abs (b -ℤ d) + unsigned_abs b * unsigned_abs (a -ℤ c)
unsigned_abs-sub-crossed_le a b c d =
    rw (crossed_step a b c d)
    (omega (arith, unsigned_abs-add_le (a *ℤ (d -ℤ b)) (b *ℤ (a -ℤ c)), unsigned_abs-mul a (d -ℤ b), unsigned_abs-mul b (a -ℤ c), ap (λ t. unsigned_abs a * t) (unsigned_abs-sub_comm d b)))

-- the smaller, and the larger, of larger numbers is larger
pub int_le-min : (a b c d : ℤ) → a ≤ℤ c → b ≤ℤ d → int_min a b ≤ℤ int_min c d
int_le-min a b c d h k = omega (arith, ints, clamps)

pub int_le-max : (a b c d : ℤ) → a ≤ℤ c → b ≤ℤ d → int_max a b ≤ℤ int_max c d
int_le-max a b c d h k = omega (arith, ints, clamps)

-- x, turned round where y is negative
abbrev pub with_sign : ℤ → ℤ → ℤ
with_sign (pos n) x = x
with_sign (negsuc n) x = neg_ℤ x

-- the signs of two divisors go out of a distance
pub unsigned_abs-sub-signs : (x y z w : ℤ) → unsigned_abs (with_sign y x *ℤ pos (unsigned_abs w) -ℤ with_sign w z *ℤ pos (unsigned_abs y)) ≡ unsigned_abs (x *ℤ w -ℤ z *ℤ y)
unsigned_abs-sub-signs x (pos m) z (pos n) = refl
unsigned_abs-sub-signs x (pos m) z (negsuc n) = rw (as_difference x, as_difference z) (simp differences (omega arith))
unsigned_abs-sub-signs x (negsuc m) z (pos n) = rw (as_difference x, as_difference z) (simp differences (omega arith))
unsigned_abs-sub-signs x (negsuc m) z (negsuc n) = rw (as_difference x, as_difference z) (simp differences (omega arith))
