-- Polynomials over the whole numbers, by naturals: a whole number is read as a difference p ⊖ m of two naturals, and `simp differences` brings sums, products and negations of differences to one difference.
-- An identity or an order that holds for every whole number is then one line. For x and y of ℤ and n of ℕ:
--     rw (as_difference x, as_difference y) (simp differences (same _ _ _ _ (omega arith)))
-- with `at_most` for ≤ℤ and `below` for <ℤ; a number `pos n` needs no `as_difference`. A hypothesis h is brought to naturals by
--     at_most_naturals _ _ _ _ (simp differences at (rw (as_difference x, as_difference y) at h))
use Rattle.std.specs.Prelude.{◌≡◌, ℕ, ◌+◌, ◌*◌, ◌-◌, ◌≤◌, ◌<◌, suc, ℤ, pos, negsuc, ◌+ℤ◌, ◌*ℤ◌, neg_ℤ, ◌≤ℤ◌, ◌<ℤ◌, unsigned_abs}
use Rattle.std.proofs.Common.{arith, ap}
use borrow.Author.Differences.{up, down, sum_is_lem, product_is, neg_is, abs_is, same_in, same_out, at_most_in, below_in, le_out, lt_out}

-- p - m
infixl 6 ◌⊖◌
pub ◌⊖◌ : ℕ → ℕ → ℤ
p ⊖ m = pos p +ℤ neg_ℤ (pos m)

-- what `omega` knows of a difference
pub difference_is : (p m : ℕ) → up (p ⊖ m) + m ≡ down (p ⊖ m) + p
unfolding ◌⊖◌
difference_is p m = omega (arith, sum_is_lem (pos p) (neg_ℤ (pos m)), neg_is (pos m))

-- each whole number is a difference
pub as_difference : (z : ℤ) → z ≡ up z ⊖ down z
as_difference z = same_in _ _ (omega (arith, difference_is (up z) (down z)))

pub pos_difference : (n : ℕ) → pos n ≡ n ⊖ 0
pos_difference n = same_in _ _ (omega (arith, difference_is n 0))

pub negsuc_difference : (n : ℕ) → negsuc n ≡ 0 ⊖ suc n
negsuc_difference n = same_in _ _ (omega (arith, difference_is 0 (suc n)))

pub neg-difference : (a b : ℕ) → neg_ℤ (a ⊖ b) ≡ b ⊖ a
neg-difference a b = same_in _ _ (omega (arith, neg_is (a ⊖ b), difference_is a b, difference_is b a))

pub sum-differences : (a b c d : ℕ) → (a ⊖ b) +ℤ (c ⊖ d) ≡ (a + c) ⊖ (b + d)
sum-differences a b c d = same_in _ _ (omega (arith, sum_is_lem (a ⊖ b) (c ⊖ d), difference_is a b, difference_is c d, difference_is (a + c) (b + d)))

products : (u v a b p q c d : ℕ) → u + b ≡ v + a → p + d ≡ q + c → u * p + v * q + (a * d + b * c) ≡ u * q + v * p + (a * c + b * d)
products u v a b p q c d e f = omega (arith, ap (λ x. x * p) e, ap (λ x. x * q) e, ap (λ x. x * a) f, ap (λ x. x * b) f)

pub product-differences : (a b c d : ℕ) → (a ⊖ b) *ℤ (c ⊖ d) ≡ (a * c + b * d) ⊖ (a * d + b * c)
product-differences a b c d = same_in _ _ (omega (arith, product_is (a ⊖ b) (c ⊖ d), products _ _ a b _ _ c d (difference_is a b) (difference_is c d), difference_is (a * c + b * d) (a * d + b * c)))

pub unsigned_abs-difference : (a b : ℕ) → unsigned_abs (a ⊖ b) ≡ (a - b) + (b - a)
unsigned_abs-difference a b = omega (arith, abs_is (a ⊖ b), difference_is a b)

pub ruleset differences = (pos_difference, negsuc_difference, neg-difference, sum-differences, product-differences, unsigned_abs-difference)

-- what holds of each difference holds of each whole number
pub every_difference : (P : ℤ → Type 0) → ((p m : ℕ) → P (p ⊖ m)) → (z : ℤ) → P z
every_difference P h z = rw (as_difference z) (h (up z) (down z))

-- two differences are the same, or in order, where their naturals say so
pub same : (a b c d : ℕ) → a + d ≡ c + b → a ⊖ b ≡ c ⊖ d
same a b c d e = same_in _ _ (omega (arith, difference_is a b, difference_is c d))

pub at_most : (a b c d : ℕ) → a + d ≤ c + b → (a ⊖ b) ≤ℤ (c ⊖ d)
at_most a b c d h = at_most_in _ _ (omega (arith, difference_is a b, difference_is c d))

pub below : (a b c d : ℕ) → a + d < c + b → (a ⊖ b) <ℤ (c ⊖ d)
below a b c d h = below_in _ _ (omega (arith, difference_is a b, difference_is c d))

-- and the other way
pub same_naturals : (a b c d : ℕ) → a ⊖ b ≡ c ⊖ d → a + d ≡ c + b
same_naturals a b c d e = omega (arith, same_out _ _ e, difference_is a b, difference_is c d)

pub at_most_naturals : (a b c d : ℕ) → (a ⊖ b) ≤ℤ (c ⊖ d) → a + d ≤ c + b
at_most_naturals a b c d h = omega (arith, le_out _ _ h, difference_is a b, difference_is c d)

pub below_naturals : (a b c d : ℕ) → (a ⊖ b) <ℤ (c ⊖ d) → a + d < c + b
below_naturals a b c d h = omega (arith, lt_out _ _ h, difference_is a b, difference_is c d)
