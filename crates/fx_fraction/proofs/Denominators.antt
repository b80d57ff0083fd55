-- Fractions over a common denominator: what each operation is there, and each order. `Is f d z` says that f is z / d, so a law of fractions is its law of whole numbers.
-- For f + g at most h:
--     let c = common_three f g h in AtMost-in (is_plus c.first c.second) c.third (a proof of (c.x +ℤ c.y) ≤ℤ c.z)
use Rattle.std.specs.Prelude.{◌≡◌, ℕ, zero, suc, pred, ◌*◌, ◌≤◌, Bool, true, false, cond, ℤ, pos, negsuc, ◌+ℤ◌, ◌-ℤ◌, ◌*ℤ◌, neg_ℤ, ◌≤ℤ◌, ◌<ℤ◌, unsigned_abs, int_le, int_lt}
use Rattle.std.specs.Int.{int_min, int_max}
use Rattle.std.proofs.Common.{◌==◌, eqb-true, refl, sym, ap, ap₂, ◌∙◌, subst, arith, mul-le-mul, mul_comm, zero-mul}
use native.Mathlib.Nat.{suc-pred-eq_of_pos, mul-pos}
use Rattle.std.proofs.lemmas.Int.{ints}
use Rattle.std.proofs.lemmas.Bool.Decides.{nat_tests}
use Rattle.fx_fraction.specs.Fraction.{Fraction, denom, whole, over, plus, minus, times, quotient, divided, lesser, greater, absolute, distance, is_zero, Same, AtMost, Below, Is}
use Rattle.fx_fraction.proofs.Polynomials.{differences, as_difference, same}
use Rattle.fx_fraction.proofs.WholeNumbers.{int_le-mul_pos, int_lt-mul_pos, int_le_of-mul, int_lt_of-mul, int_eq_of-mul, int_le-true, int_le-false, int_lt-true, int_lt-false, unsigned_abs-mul_pos, int_mul_right_comm, int_neg-mul, with_sign, zero_from-unsigned_abs}
use lib.Signed.{clash_ℤ}

-- ---- the identities behind the operations: m / a is x / d, and n / b is y / e

turned : (x : ℤ) (a b : ℕ) → x *ℤ pos a *ℤ pos b ≡ x *ℤ pos b *ℤ pos a
turned x a b = int_mul_right_comm x (pos a) (pos b)

spread : (m n : ℤ) (a b d : ℕ) → (m *ℤ pos b +ℤ n *ℤ pos a) *ℤ pos d ≡ m *ℤ pos d *ℤ pos b +ℤ n *ℤ pos d *ℤ pos a
spread m n a b d = rw (as_difference m, as_difference n) (simp differences (same _ _ _ _ (omega arith)))

gathered : (x y : ℤ) (a b : ℕ) → x *ℤ pos a *ℤ pos b +ℤ y *ℤ pos b *ℤ pos a ≡ (x +ℤ y) *ℤ pos (a * b)
gathered x y a b = rw (as_difference x, as_difference y) (simp differences (same _ _ _ _ (omega arith)))

plus_equal : (m n x y : ℤ) (a b d : ℕ) → m *ℤ pos d ≡ x *ℤ pos a → n *ℤ pos d ≡ y *ℤ pos b → (m *ℤ pos b +ℤ n *ℤ pos a) *ℤ pos d ≡ (x +ℤ y) *ℤ pos (a * b)
plus_equal m n x y a b d p q = spread m n a b d ∙ ap₂ (λ s t. s *ℤ pos b +ℤ t *ℤ pos a) p q ∙ gathered x y a b

spread_minus : (m n : ℤ) (a b d : ℕ) → (m *ℤ pos b -ℤ n *ℤ pos a) *ℤ pos d ≡ m *ℤ pos d *ℤ pos b -ℤ n *ℤ pos d *ℤ pos a
spread_minus m n a b d = rw (as_difference m, as_difference n) (simp differences (same _ _ _ _ (omega arith)))

gathered_minus : (x y : ℤ) (a b : ℕ) → x *ℤ pos a *ℤ pos b -ℤ y *ℤ pos b *ℤ pos a ≡ (x -ℤ y) *ℤ pos (a * b)
gathered_minus x y a b = rw (as_difference x, as_difference y) (simp differences (same _ _ _ _ (omega arith)))

minus_equal : (m n x y : ℤ) (a b d : ℕ) → m *ℤ pos d ≡ x *ℤ pos a → n *ℤ pos d ≡ y *ℤ pos b → (m *ℤ pos b -ℤ n *ℤ pos a) *ℤ pos d ≡ (x -ℤ y) *ℤ pos (a * b)
minus_equal m n x y a b d p q = spread_minus m n a b d ∙ ap₂ (λ s t. s *ℤ pos b -ℤ t *ℤ pos a) p q ∙ gathered_minus x y a b

crossed : (m n : ℤ) (d e : ℕ) → m *ℤ n *ℤ pos (d * e) ≡ m *ℤ pos d *ℤ (n *ℤ pos e)
crossed m n d e = rw (as_difference m, as_difference n) (simp differences (same _ _ _ _ (omega arith)))

times_equal : (m n x y : ℤ) (a b d e : ℕ) → m *ℤ pos d ≡ x *ℤ pos a → n *ℤ pos e ≡ y *ℤ pos b → m *ℤ n *ℤ pos (d * e) ≡ x *ℤ y *ℤ pos (a * b)
times_equal m n x y a b d e p q = crossed m n d e ∙ ap₂ (λ s t. s *ℤ t) p q ∙ sym (crossed x y a b)

scaled : (x : ℤ) (a k : ℕ) → x *ℤ pos (a * k) ≡ x *ℤ pos a *ℤ pos k
scaled x a k = rw (as_difference x) (simp differences (same _ _ _ _ (omega arith)))

absolute_equal : (m x : ℤ) (a d : ℕ) → m *ℤ pos d ≡ x *ℤ pos a → unsigned_abs m * d ≡ unsigned_abs x * a
absolute_equal m x a d p = sym (unsigned_abs-mul_pos m d) ∙ ap unsigned_abs p ∙ unsigned_abs-mul_pos x a

-- the denominator of a product
suc-pred-mul : (a b : ℕ) → suc (pred (suc a * suc b)) ≡ suc a * suc b
suc-pred-mul a b = suc-pred-eq_of_pos (mul-pos (omega arith) (omega arith))

-- ---- what each operation is over a denominator

pub is_whole : (z : ℤ) (d : ℕ) → 1 ≤ d → Is (whole z) d (z *ℤ pos d)
unfolding whole
is_whole z d p = record { positive = p; equal = rw (as_difference z) (simp differences (same _ _ _ _ (omega arith))) }

pub is_nothing : (d : ℕ) → 1 ≤ d → Is (whole (pos 0)) d (pos 0)
is_nothing d p = rw (zero-mul d) at (is_whole (pos 0) d p)

pub is_over : (z : ℤ) (d : ℕ) → 1 ≤ d → Is (over z d) d z
unfolding over
is_over z d p = record { positive = p; equal = ap (λ n. z *ℤ pos n) (omega arith) }

-- over a multiple of the denominator
pub is_scaled : {f : Fraction} {d : ℕ} {x : ℤ} (k : ℕ) → 1 ≤ k → Is f d x → Is f (d * k) (x *ℤ pos k)
is_scaled {f} {d} {x} k p i = record {
  positive = omega (arith, mul-le-mul i.positive p);
  equal = scaled f.numer d k ∙ ap (λ t. t *ℤ pos k) i.equal ∙ turned x (denom f) k;
}

pub is_plus : {f g : Fraction} {d : ℕ} {x y : ℤ} → Is f d x → Is g d y → Is (plus f g) d (x +ℤ y)
unfolding plus
is_plus {f} {g} {d} {x} {y} i j = record {
  positive = i.positive;
  equal = rw (suc-pred-mul f.less g.less) (plus_equal f.numer g.numer x y (denom f) (denom g) d i.equal j.equal);
}

pub is_minus : {f g : Fraction} {d : ℕ} {x y : ℤ} → Is f d x → Is g d y → Is (minus f g) d (x -ℤ y)
unfolding minus
is_minus {f} {g} {d} {x} {y} i j = record {
  positive = i.positive;
  equal = rw (suc-pred-mul f.less g.less) (minus_equal f.numer g.numer x y (denom f) (denom g) d i.equal j.equal);
}

-- the denominators are multiplied too
pub is_times : {f g : Fraction} {d e : ℕ} {x y : ℤ} → Is f d x → Is g e y → Is (times f g) (d * e) (x *ℤ y)
unfolding times
is_times {f} {g} {d} {e} {x} {y} i j = record {
  positive = omega (arith, mul-le-mul i.positive j.positive);
  equal = rw (suc-pred-mul f.less g.less) (times_equal f.numer g.numer x y (denom f) (denom g) d e i.equal j.equal);
}

pub is_absolute : {f : Fraction} {d : ℕ} {x : ℤ} → Is f d x → Is (absolute f) d (pos (unsigned_abs x))
unfolding absolute
is_absolute {f} {d} {x} i = record { positive = i.positive; equal = ap pos (absolute_equal f.numer x (denom f) d i.equal) }

pub is_distance : {f g : Fraction} {d : ℕ} {x y : ℤ} → Is f d x → Is g d y → Is (distance f g) d (pos (unsigned_abs (x -ℤ y)))
unfolding distance
is_distance i j = is_absolute (is_minus i j)

-- ---- orders: m / a is x / d and n / b is y / e, so both sides of a cross product are multiples of one another

left_out : (m : ℤ) (b d e : ℕ) → m *ℤ pos b *ℤ pos (d * e) ≡ m *ℤ pos d *ℤ pos (b * e)
left_out m b d e = rw (as_difference m) (simp differences (same _ _ _ _ (omega arith)))

left_in : (x : ℤ) (a b e : ℕ) → x *ℤ pos a *ℤ pos (b * e) ≡ x *ℤ pos e *ℤ pos (a * b)
left_in x a b e = rw (as_difference x) (simp differences (same _ _ _ _ (omega arith)))

left_side : (m x : ℤ) (a b d e : ℕ) → m *ℤ pos d ≡ x *ℤ pos a → m *ℤ pos b *ℤ pos (d * e) ≡ x *ℤ pos e *ℤ pos (a * b)
left_side m x a b d e p = left_out m b d e ∙ ap (λ t. t *ℤ pos (b * e)) p ∙ left_in x a b e

right_out : (n : ℤ) (a d e : ℕ) → n *ℤ pos a *ℤ pos (d * e) ≡ n *ℤ pos e *ℤ pos (a * d)
right_out n a d e = rw (as_difference n) (simp differences (same _ _ _ _ (omega arith)))

right_in : (y : ℤ) (a b d : ℕ) → y *ℤ pos b *ℤ pos (a * d) ≡ y *ℤ pos d *ℤ pos (a * b)
right_in y a b d = rw (as_difference y) (simp differences (same _ _ _ _ (omega arith)))

right_side : (n y : ℤ) (a b d e : ℕ) → n *ℤ pos e ≡ y *ℤ pos b → n *ℤ pos a *ℤ pos (d * e) ≡ y *ℤ pos d *ℤ pos (a * b)
right_side n y a b d e p = right_out n a d e ∙ ap (λ t. t *ℤ pos (a * d)) p ∙ right_in y a b d

-- what the two cross products are, for f that is x / d and g that is y / e
pub record Crossed (f g : Fraction) (d e : ℕ) (x y : ℤ) : Type 0 where
  pub below : 1 ≤ d * e
  pub above : 1 ≤ denom f * denom g
  pub left : f.numer *ℤ pos (denom g) *ℤ pos (d * e) ≡ x *ℤ pos e *ℤ pos (denom f * denom g)
  pub right : g.numer *ℤ pos (denom f) *ℤ pos (d * e) ≡ y *ℤ pos d *ℤ pos (denom f * denom g)

crossed_of : {f g : Fraction} {d e : ℕ} {x y : ℤ} → Is f d x → Is g e y → Crossed f g d e x y
crossed_of {f} {g} {d} {e} {x} {y} i j = record {
  below = mul-pos i.positive j.positive;
  above = mul-pos (omega arith) (omega arith);
  left = left_side f.numer x (denom f) (denom g) d e i.equal;
  right = right_side g.numer y (denom f) (denom g) d e j.equal;
}

-- over any two denominators
pub Same-in_cross : {f g : Fraction} {d e : ℕ} {x y : ℤ} → Is f d x → Is g e y → x *ℤ pos e ≡ y *ℤ pos d → Same f g
Same-in_cross {f} {g} {d} {e} {x} {y} i j h =
    let c = crossed_of i j in
    int_eq_of-mul _ _ (d * e) c.below (c.left ∙ ap (λ t. t *ℤ pos (denom f * denom g)) h ∙ sym c.right)

pub Same-out_cross : {f g : Fraction} {d e : ℕ} {x y : ℤ} → Is f d x → Is g e y → Same f g → x *ℤ pos e ≡ y *ℤ pos d
Same-out_cross {f} {g} {d} {e} {x} {y} i j h =
    let c = crossed_of i j in
    int_eq_of-mul _ _ (denom f * denom g) c.above (sym c.left ∙ ap (λ t. t *ℤ pos (d * e)) h ∙ c.right)

pub AtMost-in_cross : {f g : Fraction} {d e : ℕ} {x y : ℤ} → Is f d x → Is g e y → (x *ℤ pos e) ≤ℤ (y *ℤ pos d) → AtMost f g
AtMost-in_cross {f} {g} {d} {e} {x} {y} i j h =
    let c = crossed_of i j in
    int_le_of-mul _ _ (d * e) c.below (rw (c.left, c.right) (int_le-mul_pos _ _ (denom f * denom g) h))

pub AtMost-out_cross : {f g : Fraction} {d e : ℕ} {x y : ℤ} → Is f d x → Is g e y → AtMost f g → (x *ℤ pos e) ≤ℤ (y *ℤ pos d)
AtMost-out_cross {f} {g} {d} {e} {x} {y} i j h =
    let c = crossed_of i j in
    int_le_of-mul _ _ (denom f * denom g) c.above (rw (← c.left, ← c.right) (int_le-mul_pos _ _ (d * e) h))

pub Below-in_cross : {f g : Fraction} {d e : ℕ} {x y : ℤ} → Is f d x → Is g e y → (x *ℤ pos e) <ℤ (y *ℤ pos d) → Below f g
Below-in_cross {f} {g} {d} {e} {x} {y} i j h =
    let c = crossed_of i j in
    int_lt_of-mul _ _ (d * e) (rw (c.left, c.right) (int_lt-mul_pos _ _ (denom f * denom g) c.above h))

pub Below-out_cross : {f g : Fraction} {d e : ℕ} {x y : ℤ} → Is f d x → Is g e y → Below f g → (x *ℤ pos e) <ℤ (y *ℤ pos d)
Below-out_cross {f} {g} {d} {e} {x} {y} i j h =
    let c = crossed_of i j in
    int_lt_of-mul _ _ (denom f * denom g) (rw (← c.left, ← c.right) (int_lt-mul_pos _ _ (d * e) c.below h))

-- over one denominator
pub Same-in : {f g : Fraction} {d : ℕ} {x y : ℤ} → Is f d x → Is g d y → x ≡ y → Same f g
Same-in {f} {g} {d} i j h = Same-in_cross i j (ap (λ t. t *ℤ pos d) h)

pub Same-out : {f g : Fraction} {d : ℕ} {x y : ℤ} → Is f d x → Is g d y → Same f g → x ≡ y
Same-out {f} {g} {d} i j h = int_eq_of-mul _ _ d i.positive (Same-out_cross i j h)

pub AtMost-in : {f g : Fraction} {d : ℕ} {x y : ℤ} → Is f d x → Is g d y → x ≤ℤ y → AtMost f g
AtMost-in {f} {g} {d} i j h = AtMost-in_cross i j (int_le-mul_pos _ _ d h)

pub AtMost-out : {f g : Fraction} {d : ℕ} {x y : ℤ} → Is f d x → Is g d y → AtMost f g → x ≤ℤ y
AtMost-out {f} {g} {d} i j h = int_le_of-mul _ _ d i.positive (AtMost-out_cross i j h)

pub Below-in : {f g : Fraction} {d : ℕ} {x y : ℤ} → Is f d x → Is g d y → x <ℤ y → Below f g
Below-in {f} {g} {d} i j h = Below-in_cross i j (int_lt-mul_pos _ _ d i.positive h)

pub Below-out : {f g : Fraction} {d : ℕ} {x y : ℤ} → Is f d x → Is g d y → Below f g → x <ℤ y
Below-out {f} {g} {d} i j h = int_lt_of-mul _ _ d (Below-out_cross i j h)

-- ---- the smaller and the larger of two

lesser_case : {f g : Fraction} {d : ℕ} {x y : ℤ} → Is f d x → Is g d y → (t u : Bool) → int_le (f.numer *ℤ pos (denom g)) (g.numer *ℤ pos (denom f)) ≡ t → int_lt y x ≡ u → Is (cond t f g) d (cond u y x)
lesser_case i j true false p q = i
lesser_case i j false true p q = j
lesser_case {f} {g} {d} {x} {y} i j true true p q = clash_ℤ (int_lt-true y x q) (AtMost-out i j (int_le-true (f.numer *ℤ pos (denom g)) (g.numer *ℤ pos (denom f)) p))
lesser_case {f} {g} {d} {x} {y} i j false false p q = clash_ℤ (Below-out j i (int_le-false (f.numer *ℤ pos (denom g)) (g.numer *ℤ pos (denom f)) p)) (int_lt-false y x q)

pub is_lesser : {f g : Fraction} {d : ℕ} {x y : ℤ} → Is f d x → Is g d y → Is (lesser f g) d (int_min x y)
unfolding lesser
is_lesser i j = lesser_case i j _ _ refl refl

greater_case : {f g : Fraction} {d : ℕ} {x y : ℤ} → Is f d x → Is g d y → (t u : Bool) → int_le (f.numer *ℤ pos (denom g)) (g.numer *ℤ pos (denom f)) ≡ t → int_lt y x ≡ u → Is (cond t g f) d (cond u x y)
greater_case i j true false p q = j
greater_case i j false true p q = i
greater_case {f} {g} {d} {x} {y} i j true true p q = clash_ℤ (int_lt-true y x q) (AtMost-out i j (int_le-true (f.numer *ℤ pos (denom g)) (g.numer *ℤ pos (denom f)) p))
greater_case {f} {g} {d} {x} {y} i j false false p q = clash_ℤ (Below-out j i (int_le-false (f.numer *ℤ pos (denom g)) (g.numer *ℤ pos (denom f)) p)) (int_lt-false y x q)

pub is_greater : {f g : Fraction} {d : ℕ} {x y : ℤ} → Is f d x → Is g d y → Is (greater f g) d (int_max x y)
unfolding greater
is_greater i j = greater_case i j _ _ refl refl

-- ---- quotients

pub quotient-zero : (t : ℤ) → quotient t (pos 0) ≡ whole (pos 0)
unfolding quotient whole
quotient-zero t = refl

pub quotient-pos : (t : ℤ) (n : ℕ) → 1 ≤ n → quotient t (pos n) ≡ over t n
unfolding quotient over
quotient-pos t zero p = absurd (omega arith)
quotient-pos t (suc n) p = ap (λ k. record { numer = t; less = k }) (omega arith)

pub quotient-neg : (t : ℤ) (n : ℕ) → 1 ≤ n → quotient t (neg_ℤ (pos n)) ≡ over (neg_ℤ t) n
unfolding quotient over
quotient-neg t zero p = absurd (omega arith)
quotient-neg t (suc n) p = ap (λ k. record { numer = neg_ℤ t; less = k }) (omega arith)

pub is_over_cross : (t x : ℤ) (e n : ℕ) → 1 ≤ e → 1 ≤ n → t *ℤ pos n ≡ x *ℤ pos e → Is (over t e) n x
unfolding over
is_over_cross t x e n p q h = record { positive = q; equal = h ∙ ap (λ k. x *ℤ pos k) (omega arith) }

-- m / a is x / d and k / b is n / d, so their quotient is x / n
divided_out : (m : ℤ) (b n d : ℕ) → m *ℤ pos b *ℤ pos n *ℤ pos d ≡ m *ℤ pos d *ℤ pos (n * b)
divided_out m b n d = rw (as_difference m) (simp differences (same _ _ _ _ (omega arith)))

divided_in : (x : ℤ) (a k d : ℕ) → x *ℤ pos a *ℤ pos (k * d) ≡ x *ℤ pos (k * a) *ℤ pos d
divided_in x a k d = rw (as_difference x) (simp differences (same _ _ _ _ (omega arith)))

divided_equal : (m x : ℤ) (a b d k n : ℕ) → 1 ≤ d → m *ℤ pos d ≡ x *ℤ pos a → k * d ≡ n * b → m *ℤ pos b *ℤ pos n ≡ x *ℤ pos (k * a)
divided_equal m x a b d k n p e h = int_eq_of-mul _ _ d p (divided_out m b n d ∙ ap₂ (λ s t. s *ℤ pos t) e (sym h) ∙ divided_in x a k d)

divided_case : (m w x : ℤ) (a b d n : ℕ) → 1 ≤ a → 1 ≤ b → 1 ≤ d → 1 ≤ n → m *ℤ pos d ≡ x *ℤ pos a → w *ℤ pos d ≡ pos n *ℤ pos b → Is (quotient (m *ℤ pos b) (w *ℤ pos a)) n x
divided_case m (pos zero) x a b d n p q r s e h = absurd (omega (arith, mul-pos s q, ints, h))
divided_case m (pos (suc k)) x a b d n p q r s e h = rw (quotient-pos (m *ℤ pos b) (suc k * a) (mul-pos (omega arith) p)) (is_over_cross _ x _ n (mul-pos (omega arith) p) s (divided_equal m x a b d (suc k) n r e (ap unsigned_abs h)))
divided_case m (negsuc k) x a b d n p q r s e h = absurd (omega (arith, mul-pos s q, ints, h))

divided_case_negative : (m w x : ℤ) (a b d n : ℕ) → 1 ≤ a → 1 ≤ b → 1 ≤ d → 1 ≤ n → m *ℤ pos d ≡ x *ℤ pos a → w *ℤ pos d ≡ neg_ℤ (pos n) *ℤ pos b → Is (quotient (m *ℤ pos b) (w *ℤ pos a)) n (neg_ℤ x)
divided_case_negative m (pos k) x a b d n p q r s e h = absurd (omega (arith, mul-pos s q, ints, h ∙ int_neg-mul (pos n) (pos b)))
divided_case_negative m (negsuc k) x a b d n p q r s e h =
    rw (quotient-neg (m *ℤ pos b) (suc k * a) (mul-pos (omega arith) p))
    (is_over_cross _ (neg_ℤ x) _ n (mul-pos (omega arith) p) s
    (int_neg-mul (m *ℤ pos b) (pos n) ∙ ap neg_ℤ (divided_equal m x a b d (suc k) n r e (omega (arith, ints, h ∙ int_neg-mul (pos n) (pos b)))) ∙ sym (int_neg-mul x (pos (suc k * a)))))

-- f / g over the numerator of g
pub is_divided : {f g : Fraction} {d : ℕ} {x : ℤ} {n : ℕ} → 1 ≤ n → Is f d x → Is g d (pos n) → Is (divided f g) n x
unfolding divided
is_divided {f} {g} {d} {x} {n} p i j = divided_case f.numer g.numer x (denom f) (denom g) d n (omega arith) (omega arith) i.positive p i.equal j.equal

pub is_divided_negative : {f g : Fraction} {d : ℕ} {x : ℤ} {n : ℕ} → 1 ≤ n → Is f d x → Is g d (neg_ℤ (pos n)) → Is (divided f g) n (neg_ℤ x)
unfolding divided
is_divided_negative {f} {g} {d} {x} {n} p i j = divided_case_negative f.numer g.numer x (denom f) (denom g) d n (omega arith) (omega arith) i.positive p i.equal j.equal

-- over the absolute value of that numerator, whatever its sign
pub is_divided_signed : {f g : Fraction} {d : ℕ} {x : ℤ} (y : ℤ) → 1 ≤ unsigned_abs y → Is f d x → Is g d y → Is (divided f g) (unsigned_abs y) (with_sign y x)
is_divided_signed (pos n) p i j = is_divided p i j
is_divided_signed (negsuc n) p i j = is_divided_negative p i j

divided_by_zero : (t w : ℤ) (a b d : ℕ) → 1 ≤ d → w *ℤ pos d ≡ pos 0 *ℤ pos b → quotient t (w *ℤ pos a) ≡ whole (pos 0)
divided_by_zero t w a b d p h =
    let e = int_eq_of-mul w (pos 0) d p (h ∙ ap pos (omega arith)) in
    ap (quotient t) (ap (λ v. v *ℤ pos a) e ∙ ap pos (zero-mul a)) ∙ quotient-zero t

pub is_divided_zero : (f : Fraction) {g : Fraction} {d : ℕ} → Is g d (pos 0) → divided f g ≡ whole (pos 0)
unfolding divided
is_divided_zero f {g} {d} j = divided_by_zero _ g.numer (denom f) (denom g) d j.positive j.equal

-- ---- 0

factor_positive : (m n : ℕ) → 1 ≤ m * n → 1 ≤ m
factor_positive zero n h = absurd (omega (arith, zero-mul n))
factor_positive (suc m) n h = omega arith

-- a fraction is 0 exactly where its numerator over any denominator is
pub zero_out : {f : Fraction} {d : ℕ} {x : ℤ} → is_zero f ≡ true → Is f d x → x ≡ pos 0
unfolding is_zero
zero_out {f} {d} {x} e i =
    let z = zero_from-unsigned_abs f.numer (eqb-true _ _ e) in
    int_eq_of-mul x (pos 0) (denom f) (omega arith) (sym i.equal ∙ ap (λ t. t *ℤ pos d) z ∙ ap pos (zero-mul d ∙ sym (zero-mul (denom f))))

pub not_zero_out : {f : Fraction} {d : ℕ} {x : ℤ} → is_zero f ≡ false → Is f d x → 1 ≤ unsigned_abs x
unfolding is_zero
not_zero_out {f} {d} {x} e i =
    let n : 1 ≤ unsigned_abs f.numer = grind (arith, nat_tests) in
    factor_positive (unsigned_abs x) (denom f) (rw (← (absolute_equal f.numer x (denom f) d i.equal)) (mul-pos n i.positive))

pub zero_in : {f : Fraction} {d : ℕ} {x : ℤ} → x ≡ pos 0 → Is f d x → is_zero f ≡ true
unfolding is_zero
zero_in {f} {d} {x} e i =
    ap (λ z. unsigned_abs z == 0) (int_eq_of-mul f.numer (pos 0) d i.positive (i.equal ∙ ap (λ t. t *ℤ pos (denom f)) e ∙ ap pos (zero-mul (denom f) ∙ sym (zero-mul d))))

-- ---- a common denominator

pub record CommonTwo (f g : Fraction) : Type 0 where
  pub bottom : ℕ
  pub x : ℤ
  pub y : ℤ
  pub first : Is f bottom x
  pub second : Is g bottom y

pub record CommonThree (f g h : Fraction) : Type 0 where
  pub bottom : ℕ
  pub x : ℤ
  pub y : ℤ
  pub z : ℤ
  pub first : Is f bottom x
  pub second : Is g bottom y
  pub third : Is h bottom z

pub record CommonFour (f g h k : Fraction) : Type 0 where
  pub bottom : ℕ
  pub x : ℤ
  pub y : ℤ
  pub z : ℤ
  pub w : ℤ
  pub first : Is f bottom x
  pub second : Is g bottom y
  pub third : Is h bottom z
  pub fourth : Is k bottom w

-- a fraction over its own denominator
pub is_self : (f : Fraction) → Is f (denom f) f.numer
is_self f = record { positive = omega arith; equal = refl }

-- another fraction of the same value
pub is_same : {f g : Fraction} {d : ℕ} {x : ℤ} → Same f g → Is f d x → Is g d x
is_same {f} {g} {d} {x} e i = record { positive = i.positive; equal = Same-out_cross (is_self g) i (sym e) }

-- a number over another name of its denominator
pub is_renamed : {f : Fraction} {d e : ℕ} {x : ℤ} → d ≡ e → Is f d x → Is f e x
is_renamed {f} {d} {e} {x} p i = subst (λ n. Is f n x) p i

pub common_two : (f g : Fraction) → CommonTwo f g
common_two f g = record {
  bottom = denom f * denom g;
  x = f.numer *ℤ pos (denom g);
  y = g.numer *ℤ pos (denom f);
  first = is_scaled (denom g) (omega arith) (is_self f);
  second = is_renamed (mul_comm (denom g) (denom f)) (is_scaled (denom f) (omega arith) (is_self g));
}

pub common_three : (f g h : Fraction) → CommonThree f g h
common_three f g h =
    let c = common_two f g in record {
      bottom = c.bottom * denom h;
      x = c.x *ℤ pos (denom h);
      y = c.y *ℤ pos (denom h);
      z = h.numer *ℤ pos c.bottom;
      first = is_scaled (denom h) (omega arith) c.first;
      second = is_scaled (denom h) (omega arith) c.second;
      third = is_renamed (mul_comm (denom h) c.bottom) (is_scaled c.bottom c.first.positive (is_self h));
    }

pub common_four : (f g h k : Fraction) → CommonFour f g h k
common_four f g h k =
    let c = common_three f g h in record {
      bottom = c.bottom * denom k;
      x = c.x *ℤ pos (denom k);
      y = c.y *ℤ pos (denom k);
      z = c.z *ℤ pos (denom k);
      w = k.numer *ℤ pos c.bottom;
      first = is_scaled (denom k) (omega arith) c.first;
      second = is_scaled (denom k) (omega arith) c.second;
      third = is_scaled (denom k) (omega arith) c.third;
      fourth = is_renamed (mul_comm (denom k) c.bottom) (is_scaled c.bottom c.first.positive (is_self k));
    }
