-- The first place that a test holds of: what one turn of a walk knows, and what was found at its end.
use Rattle.std.specs.Prelude.{◌≡◌, ℕ, zero, suc, ◌+◌, ◌-◌, ◌<◌, ◌≤◌, Bool, true, false, if◌then◌else◌, Option, Some, None, ◌⊎◌}
use Rattle.std.proofs.Common.{inl, inr, refl, sym, ap, ap₂, ◌∙◌, subst, arith}
use Rattle.ifx_search.specs.Axes.{first_place}

-- ---- a walk that has come to place i

opened : (test : ℕ → Bool) (start i n : ℕ) → i < n → first_place test i (n - i) ≡ (if test i then Some i else first_place test (suc i) (n - suc i))
unfolding first_place
opened test start i n h = ap (first_place test i) (count i n h)
  where
    count : (i n : ℕ) → i < n → n - i ≡ suc (n - suc i)
    count i n h = omega (arith, h)

pub found_here : (test : ℕ → Bool) (i n : ℕ) → i < n → test i ≡ true → first_place test i (n - i) ≡ Some i
found_here test i n h e = opened test 0 i n h ∙ ap (λ b. if b then Some i else first_place test (suc i) (n - suc i)) e

pub found_later : (test : ℕ → Bool) (i n : ℕ) (r : Option ℕ) → first_place test i (n - i) ≡ r → i < n → test i ≡ false → first_place test (i + 1) (n - (i + 1)) ≡ r
found_later test i n r known h e =
    ap₂ (first_place test) (more i) (ap (λ k. n - k) (more i))
    ∙ sym (opened test 0 i n h ∙ ap (λ b. if b then Some i else first_place test (suc i) (n - suc i)) e)
    ∙ known
  where
    more : (i : ℕ) → i + 1 ≡ suc i
    more i = omega arith

pub found_nowhere : (test : ℕ → Bool) (i n : ℕ) → n ≤ i → first_place test i (n - i) ≡ None
unfolding first_place
found_nowhere test i n h = ap (first_place test i) (none i n h)
  where
    none : (i n : ℕ) → n ≤ i → n - i ≡ 0
    none i n h = omega (arith, h)

-- ---- what an answer says of the test

some_is_not_none : (k : ℕ) → Some k ≡ None → ⊥
some_is_not_none k h = cc

-- where no place was found, the test holds of none
pub is_nowhere : (test : ℕ → Bool) (start count : ℕ) → first_place test start count ≡ None → (i : ℕ) → start ≤ i → i < start + count → test i ≡ false
unfolding first_place
is_nowhere test start zero e i low high = absurd (omega (arith, low, high))
is_nowhere test start (suc count) e i low high = at_start (test start) refl e (by_place i start low) (λ q later. is_nowhere test (suc start) count q i later (omega (arith, high)))
  where
    Later : ℕ → ℕ → Type 0
    Later i start = (start ≡ i) ⊎ (suc start ≤ i)

    by_place : (i start : ℕ) → start ≤ i → Later i start
    by_place i start h = grind arith

    at_start : (b : Bool) → test start ≡ b → (if b then Some start else first_place test (suc start) count) ≡ None → Later i start → (first_place test (suc start) count ≡ None → suc start ≤ i → test i ≡ false) → test i ≡ false
    at_start true p q l h = absurd (some_is_not_none start q)
    at_start false p q (inl same) h = subst (λ k. test k ≡ false) same p
    at_start false p q (inr later) h = h q later

-- and where the test holds of none, no place is found
pub nowhere : (test : ℕ → Bool) (start count : ℕ) → ((i : ℕ) → start ≤ i → i < start + count → test i ≡ false) → first_place test start count ≡ None
unfolding first_place
nowhere test start zero h = refl
nowhere test start (suc count) h =
    ap (λ b. if b then Some start else first_place test (suc start) count) (h start (omega arith) (omega arith))
    ∙ nowhere test (suc start) count (λ i low high. h i (omega (arith, low)) (omega (arith, high)))
