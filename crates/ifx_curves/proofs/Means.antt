-- Means with weights, as words give them.
use Rattle.std.proofs.Common.{◌≡◌, ℕ, ◌+◌, ◌-◌, ◌*◌, ◌<◌, ◌≤◌, ◌^◌, lit≤, ℤ, pos, negsuc, ◌+ℤ◌, ◌*ℤ◌, ◌≤ℤ◌, refl, sym, ap₂, ◌∙◌, subst, arith, FitsSigned}
use Rattle.std.specs.Int.{int_div_euclid, w64}
use Rattle.std.specs.Prelude.{unsigned_abs}
use Rattle.std.proofs.lemmas.Int.{ints, to_z-of_z}
use borrow.Author.Differences.{at_most_in}
use Rattle.fx_core.specs.declared.quotient.Mode.TheVariants.{Floor}
use Rattle.fx_core.specs.declared.word_type.Ty.{Ty}
use Rattle.fx_core.specs.Rounding.{rounded}
use Rattle.fx_core.specs.Types.{Holds, greatest_of, least_of}
use Rattle.fx_fraction.proofs.Polynomials.{differences, as_difference, same}
use Rattle.ifx_curves.specs.Stretches.{HoldsOver}
use Rattle.fx_core.proofs.Integers.{products_order}
use Rattle.fx_core.proofs.RoundingLaws.{rounded_above, rounded_below}
use Rattle.fx_core.proofs.WordSteps.{IsStep, plain, product_step, sum_step, word_of}

abbrev pub word : ℤ → ℤ
word z = word_of w64 z

-- ---- the sum of two numbers with weights

product_word : (v : ℤ) (m : ℕ) → unsigned_abs v < 2 ^ 32 → m ≤ 65536 → IsStep w64 (word v *ℤ word (pos m)) (v *ℤ pos m) (2 ^ 32 * 65536)
product_word v m h k = product_step w64 v (pos m) (2 ^ 32) 65536 h (omega (arith, k)) (lit≤ tt) (lit≤ tt)

pub sum_word : (v u : ℤ) (m n : ℕ) → unsigned_abs v < 2 ^ 32 → unsigned_abs u < 2 ^ 32 → m + n ≤ 65536 → IsStep w64 (word (word v *ℤ word (pos m)) +ℤ word (word u *ℤ word (pos n))) (v *ℤ pos m +ℤ u *ℤ pos n) (2 ^ 32 * 65536 + 2 ^ 32 * 65536)
sum_word v u m n h k few =
    let p = product_word v m h (omega (arith, few)) in
    let q = product_word u n k (omega (arith, few)) in
    let small_p : unsigned_abs (v *ℤ pos m) < 2 ^ 32 * 65536 = rw p.value at p.size in
    let small_q : unsigned_abs (u *ℤ pos n) < 2 ^ 32 * 65536 = rw q.value at q.size in
    let same_p : word (word v *ℤ word (pos m)) ≡ word (v *ℤ pos m) = p.value ∙ sym (plain w64 _ (omega (arith, small_p))) in
    let same_q : word (word u *ℤ word (pos n)) ≡ word (u *ℤ pos n) = q.value ∙ sym (plain w64 _ (omega (arith, small_q))) in
    rw (same_p, same_q) (sum_step w64 (v *ℤ pos m) (u *ℤ pos n) (2 ^ 32 * 65536) (2 ^ 32 * 65536) small_p small_q (lit≤ tt))

-- it fits, and is the sum
pub sum_fits : (v u f g : ℤ) (m n : ℕ) → f ≡ pos m → g ≡ pos n → unsigned_abs v < 2 ^ 32 → unsigned_abs u < 2 ^ 32 → m + n ≤ 65536 → FitsSigned w64 (word (word v *ℤ word f) +ℤ word (word u *ℤ word g))
sum_fits v u f g m n e e' h k few = rw (e, e') (sum_word v u m n h k few).fits

pub sum_value : (v u f g : ℤ) (m n : ℕ) → f ≡ pos m → g ≡ pos n → unsigned_abs v < 2 ^ 32 → unsigned_abs u < 2 ^ 32 → m + n ≤ 65536 → word (word (word v *ℤ word f) +ℤ word (word u *ℤ word g)) ≡ v *ℤ pos m +ℤ u *ℤ pos n
sum_value v u f g m n e e' h k few = rw (e, e') (sum_word v u m n h k few).value

-- ---- a quotient, rounded downward

euclid_floors : (n : ℤ) (k : ℕ) → int_div_euclid n (pos k) ≡ rounded Floor n (pos k)
unfolding rounded
euclid_floors (pos n) k = refl
euclid_floors (negsuc n) k = refl

pub floor_word : (s k z r : ℤ) (d : ℕ) → word s ≡ z → word k ≡ pos d → FitsSigned w64 r → r ≡ int_div_euclid (word s) (word k) → word r ≡ rounded Floor z (pos d)
floor_word s k z r d e e' fits is = to_z-of_z w64 r fits ∙ is ∙ ap₂ int_div_euclid e e' ∙ euclid_floors z d

-- ---- means are numbers of the type

pub holds_over_one : (t : Ty) (v : ℤ) → Holds t v → HoldsOver t 1 v
holds_over_one t v h = (subst (λ z. z ≤ℤ v) (sym (once (least_of t))) h.0, subst (λ z. v ≤ℤ z) (sym (once (greatest_of t))) h.1)
  where
    once : (z : ℤ) → z *ℤ pos 1 ≡ z
    once z = omega (arith, ints)

-- so does a mean of two
pub mean_over : (t : Ty) (c d w : ℕ) (v u : ℤ) → w ≤ d → HoldsOver t c v → HoldsOver t c u → HoldsOver t (c * d) (v *ℤ pos (d - w) +ℤ u *ℤ pos w)
mean_over t c d w v u k h h' =
    let parts : d ≡ d - w + w = omega (arith, k) in (
      above (least_of t) c d (d - w) w v u parts h.0 h'.0,
      below (greatest_of t) c d (d - w) w v u parts h.1 h'.1,
    )
  where
    spread : (z : ℤ) (c d m n : ℕ) → d ≡ m + n → z *ℤ pos (c * d) ≡ z *ℤ pos c *ℤ pos m +ℤ z *ℤ pos c *ℤ pos n
    spread z c d m n e = rw (e, as_difference z) (simp differences (same _ _ _ _ (omega arith)))

    above : (z : ℤ) (c d m n : ℕ) (v u : ℤ) → d ≡ m + n → (z *ℤ pos c) ≤ℤ v → (z *ℤ pos c) ≤ℤ u → (z *ℤ pos (c * d)) ≤ℤ (v *ℤ pos m +ℤ u *ℤ pos n)
    above z c d m n v u e h k = rw (spread z c d m n e) (at_most_in _ _ (omega (arith, ints, products_order (z *ℤ pos c) v m h, products_order (z *ℤ pos c) u n k)))

    below : (z : ℤ) (c d m n : ℕ) (v u : ℤ) → d ≡ m + n → v ≤ℤ (z *ℤ pos c) → u ≤ℤ (z *ℤ pos c) → (v *ℤ pos m +ℤ u *ℤ pos n) ≤ℤ (z *ℤ pos (c * d))
    below z c d m n v u e h k = rw (spread z c d m n e) (at_most_in _ _ (omega (arith, ints, products_order v (z *ℤ pos c) m h, products_order u (z *ℤ pos c) n k)))

pub floor_held : (t : Ty) (c : ℕ) (v : ℤ) → 1 ≤ c → HoldsOver t c v → Holds t (rounded Floor v (pos c))
floor_held t c v some h =
    let one : pos 1 ≤ℤ pos c = at_most_in _ _ (omega (arith, ints, some)) in
    (rounded_above Floor v (pos c) (least_of t) one h.0, rounded_below Floor v (pos c) (greatest_of t) one h.1)
