-- The greatest of some steps is at least each of them, and the steepest of some slopes at least as steep as each.
use Rattle.std.specs.Prelude.{◌≡◌, ℕ, zero, suc, ◌*◌, ◌<◌, ◌≤◌, Bool, true, false, nat_lt, max, if◌then◌else◌}
use Rattle.std.proofs.Common.{refl, sym, subst, arith, mul-le-mul, le_refl, eq-or-lt_of_le, le_of_mul-le-mul_right, inl, inr, ◌⊎◌}
use Rattle.std.proofs.lemmas.Bool.Decides.{nat_tests}
use Rattle.ifx_curves.specs.declared.slopes.Slope.{Slope}
use Rattle.ifx_curves.specs.Slopes.{steeper}
use Rattle.ifx_maps.specs.Slopes.{greatest_of, steepest_of}

-- ---- the greatest

above_by : (step : ℕ → ℕ) (n i : ℕ) → (i < n → step i ≤ greatest_of step n) → (suc i ≡ suc n) ⊎ (suc i < suc n) → step i ≤ max (greatest_of step n) (step n)
above_by step n i r (inl e) = subst (λ k. step k ≤ max (greatest_of step n) (step n)) {x = n} {y = i} (omega (arith, e)) (omega arith)
above_by step n i r (inr l) = omega (arith, r (omega arith))

pub greatest_above : (step : ℕ → ℕ) (n i : ℕ) → i < n → step i ≤ greatest_of step n
unfolding greatest_of
greatest_above step zero i h = absurd (omega arith)
greatest_above step (suc n) i h = above_by step n i (greatest_above step n i) (eq-or-lt_of_le h)

-- ---- the steepest

-- a is at least as steep as b
pub record IsSteeper (a b : Slope) : Type 0 where
  pub steep : b.rise * a.run ≤ a.rise * b.run

test_true : (m n : ℕ) → nat_lt m n ≡ true → m < n
test_true m n e = grind (arith, nat_tests)

test_false : (m n : ℕ) → nat_lt m n ≡ false → n ≤ m
test_false m n e = grind (arith, nat_tests)

steeper_step : (s g ar an br bn : ℕ) → 1 ≤ an → s * an ≤ ar * g → ar * bn ≤ br * an → s * bn ≤ br * g
steeper_step s g ar an br bn one h k = le_of_mul-le-mul_right (omega (arith, mul-le-mul h (le_refl bn), mul-le-mul k (le_refl g))) one

pub steeper_than : (a b c : Slope) → 1 ≤ b.run → IsSteeper a b → IsSteeper b c → IsSteeper a c
steeper_than a b c one h k = record { steep = steeper_step c.rise c.run b.rise b.run a.rise a.run one k.steep h.steep }

steeper_keeps : (a b c : Slope) (t : Bool) → nat_lt (a.rise * b.run) (b.rise * a.run) ≡ t → 1 ≤ a.run → IsSteeper a c → IsSteeper (if t then b else a) c
steeper_keeps a b c true e one h = record { steep = steeper_step c.rise c.run a.rise a.run b.rise b.run one h.steep (omega (arith, test_true _ _ e)) }
steeper_keeps a b c false e one h = h

steeper_last : (a b c : Slope) (t : Bool) → nat_lt (a.rise * b.run) (b.rise * a.run) ≡ t → 1 ≤ b.run → IsSteeper b c → IsSteeper (if t then b else a) c
steeper_last a b c true e one h = h
steeper_last a b c false e one h = record { steep = steeper_step c.rise c.run b.rise b.run a.rise a.run one h.steep (omega (arith, test_false _ _ e)) }

either_some : (a b : Slope) (t : Bool) → 1 ≤ a.run → 1 ≤ b.run → 1 ≤ (if t then b else a).run
either_some a b true p q = q
either_some a b false p q = p

pub steepest_some : (slope : ℕ → Slope) (n : ℕ) → ((i : ℕ) → i ≤ n → 1 ≤ (slope i).run) → 1 ≤ (steepest_of slope n).run
unfolding steepest_of
steepest_some slope zero h = h 0 (omega arith)
steepest_some slope (suc n) h = either_some (steepest_of slope n) (slope (suc n)) _ (steepest_some slope n (λ i l. h i (omega arith))) (h (suc n) (omega arith))

itself_steeper : (a : Slope) → IsSteeper a a
itself_steeper a = record { steep = le_refl _ }

steepest_by : (slope : ℕ → Slope) (n i : ℕ) → ((i : ℕ) → i ≤ suc n → 1 ≤ (slope i).run) → (i ≤ n → IsSteeper (steepest_of slope n) (slope i)) → (i ≡ suc n) ⊎ (i < suc n) → IsSteeper (steeper (steepest_of slope n) (slope (suc n))) (slope i)
steepest_by slope n i g r (inl e) =
    subst (λ k. IsSteeper (steeper (steepest_of slope n) (slope (suc n))) (slope k)) (sym e)
    (steeper_last (steepest_of slope n) (slope (suc n)) (slope (suc n)) _ refl (g (suc n) (omega arith)) (itself_steeper (slope (suc n))))
steepest_by slope n i g r (inr l) =
    steeper_keeps (steepest_of slope n) (slope (suc n)) (slope i) _ refl (steepest_some slope n (λ k m. g k (omega arith))) (r (omega arith))

pub steepest : (slope : ℕ → Slope) (n i : ℕ) → ((i : ℕ) → i ≤ n → 1 ≤ (slope i).run) → i ≤ n → IsSteeper (steepest_of slope n) (slope i)
unfolding steepest_of
steepest slope zero i g h = subst (λ k. IsSteeper (slope 0) (slope k)) {x = 0} {y = i} (omega arith) (itself_steeper (slope 0))
steepest slope (suc n) i g h = steepest_by slope n i g (steepest slope n i (λ k l. g k (omega arith))) (eq-or-lt_of_le h)
