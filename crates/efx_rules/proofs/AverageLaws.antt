-- The rule of averages is sound: a mean lies between the ends that its numbers lie between, and errs by no more than they do.
use Rattle.std.specs.Prelude.{◌≡◌, ℕ, zero, suc, ◌≤◌, ◌<◌, ℤ, pos, ◌+ℤ◌, ◌*ℤ◌, ◌≤ℤ◌}
use Rattle.std.specs.Int.{int_max}
use Rattle.std.proofs.Common.{refl, sym, ap, subst, arith, ◌∙◌}
use Rattle.std.proofs.lemmas.Int.{ints, clamps}
use Rattle.fx_fraction.specs.Fraction.{Fraction, whole, plus, divided, quotient}
use Rattle.fx_fraction.proofs.WholeNumbers.{int_le_refl, int_le-add, int_le-pos}
use Rattle.fx_fraction.proofs.Polynomials.{differences, as_difference, same}
use Rattle.fx_core.specs.declared.quotient.Mode.TheVariants.{Near as Nearest}
use Rattle.fx_core.specs.Rounding.{rounded}
use Rattle.fx_core.specs.Values.{rounded_fraction}
use Rattle.fx_core.proofs.RoundingLaws.{rounded_above, rounded_below}
use Rattle.part_rules.specs.declared.bounds.Bounds.{Bounds}
use Rattle.part_rules.specs.Within.{IsWithin}
use Rattle.part_rules.proofs.CornerHulls.{IsInside}
use Rattle.part_rules.proofs.ErrorsGrow.{above_least}
use Rattle.part_rules.proofs.Nearness.{Near, near_plus, near_wider}
use Rattle.part_rules.proofs.Within.{itself_within}
use Rattle.efx_filters.specs.Formulas.{sum_of, average_formula}
use Rattle.efx_rules.specs.FilterRules.{average_bounds}
use Rattle.efx_rules.specs.KeptRules.{AveragesAreSound}
use Rattle.efx_rules.proofs.FilterValues.{plus-whole, divided-whole}
use Rattle.efx_rules.proofs.NearestErrors.{near_rounded, near_divided}

-- ---- at whole numbers

total : ℕ → (ℕ → ℤ) → ℤ
total zero m = pos 0
total (suc n) m = total n m +ℤ m n

sum-whole : (n : ℕ) (m : ℕ → ℤ) → sum_of n (λ i. whole (m i)) ≡ whole (total n m)
unfolding total
sum-whole zero m = refl
sum-whole (suc n) m = ap (λ f. plus f (whole (m n))) (sum-whole n m) ∙ plus-whole (total n m) (m n)

average-whole : (n : ℕ) (m : ℕ → ℤ) → 1 ≤ n → rounded_fraction Nearest (average_formula n (λ i. whole (m i))) ≡ rounded Nearest (total n m) (pos n)
unfolding average_formula quotient
average-whole zero m some = absurd (omega arith)
average-whole (suc n) m some = ap (λ f. rounded_fraction Nearest (divided f (whole (pos (suc n))))) (sum-whole (suc n) m) ∙ ap (rounded_fraction Nearest) (divided-whole (total (suc n) m) (pos (suc n)))

-- a number n times, and once more
nothing_times : (z : ℤ) → z *ℤ pos 0 ≡ pos 0
nothing_times z = rw (as_difference z) (simp differences (same _ _ _ _ (omega arith)))

once_more : (z : ℤ) (n : ℕ) → z *ℤ pos (suc n) ≡ z *ℤ pos n +ℤ z
once_more z n = rw (as_difference z) (simp differences (same _ _ _ _ (omega arith)))

-- a sum of n numbers lies between n times the ends that each lies between
record IsTotal (lo hi t : ℤ) (n : ℕ) : Type 0 where
  low : (lo *ℤ pos n) ≤ℤ t
  high : t ≤ℤ (hi *ℤ pos n)

total_inside : (lo hi : ℤ) (n : ℕ) (m : ℕ → ℤ) → ((i : ℕ) → i < n → IsInside lo hi (m i)) → IsTotal lo hi (total n m) n
unfolding total
total_inside lo hi zero m h = record { low = rw (nothing_times lo) (int_le_refl (pos 0)); high = rw (nothing_times hi) (int_le_refl (pos 0)) }
total_inside lo hi (suc n) m h =
    let rest = total_inside lo hi n m (λ i l. h i (omega arith)) in
    let last = h n (omega arith) in
    record { low = rw (once_more lo n) (int_le-add _ _ _ _ rest.low last.low); high = rw (once_more hi n) (int_le-add _ _ _ _ rest.high last.high) }

-- ---- errors

sum_near : (err : ℤ) (n : ℕ) (a e : ℕ → Fraction) → ((i : ℕ) → i < n → Near (a i) (e i) err) → Near (sum_of n a) (sum_of n e) (err *ℤ pos n)
sum_near err zero a e h = subst (Near (whole (pos 0)) (whole (pos 0))) (sym (nothing_times err)) (record { near = itself_within (pos 0) })
sum_near err (suc n) a e h = subst (Near (plus (sum_of n a) (a n)) (plus (sum_of n e) (e n))) (sym (once_more err n)) (near_plus _ _ _ _ _ _ (sum_near err n a e (λ i l. h i (omega arith))) (h n (omega arith)))

-- a mean errs by no more than its numbers
mean_near : (err : ℤ) (n : ℕ) (a e : ℕ → Fraction) → 1 ≤ n → ((i : ℕ) → i < n → Near (a i) (e i) err) → Near (average_formula n a) (average_formula n e) err
unfolding average_formula
mean_near err n a e some h = near_wider _ _ _ _ (above_least (err *ℤ pos n) (pos n) err (int_le-pos _ _ some) (int_le_refl _)) (near_divided _ _ n _ some (sum_near err n a e h))

-- ---- the rule

-- what each of the numbers is within
record IsAmong (given : ℕ → Bounds) (m : ℤ) (e : Fraction) : Type 0 where
  range : IsInside (average_bounds given).lo (average_bounds given).hi m
  error : Near (whole m) e (int_max (given 0).err (given 1).err)

of_first : (given : ℕ → Bounds) (m : ℤ) (e : Fraction) → IsWithin (given 0) m e → IsAmong given m e
unfolding average_bounds
of_first given m e w =
    let low = w.low in
    let high = w.high in
    record {
      range = record { low = omega (arith, ints, clamps, low); high = omega (arith, ints, clamps, high) };
      error = near_wider _ _ (given 0).err _ (omega (arith, ints, clamps)) (record { near = w.near });
    }

of_window : (given : ℕ → Bounds) (m : ℤ) (e : Fraction) → IsWithin (given 1) m e → IsAmong given m e
unfolding average_bounds
of_window given m e w =
    let low = w.low in
    let high = w.high in
    record {
      range = record { low = omega (arith, ints, clamps, low); high = omega (arith, ints, clamps, high) };
      error = near_wider _ _ (given 1).err _ (omega (arith, ints, clamps)) (record { near = w.near });
    }

are_among : (n : ℕ) (given : ℕ → Bounds) (m : ℕ → ℤ) (e : ℕ → Fraction) → IsWithin (given 0) (m 0) (e 0) → ((i : ℕ) → 1 ≤ i → i < n → IsWithin (given 1) (m i) (e i)) → (i : ℕ) → i < n → IsAmong given (m i) (e i)
are_among n given m e first window zero l = of_first given (m 0) (e 0) first
are_among n given m e first window (suc i) l = of_window given (m (suc i)) (e (suc i)) (window (suc i) (omega arith) l)

pub averages_are_sound : AveragesAreSound
unfolding average_bounds
averages_are_sound n some given m e first window =
    let among = are_among n given m e first window in
    let t = total_inside (average_bounds given).lo (average_bounds given).hi n m (λ i l. (among i l).range) in
    let one = int_le-pos 1 n some in
    record {
      low = rw (average-whole n m some) (rounded_above Nearest (total n m) (pos n) _ one t.low);
      high = rw (average-whole n m some) (rounded_below Nearest (total n m) (pos n) _ one t.high);
      near = (near_rounded _ _ _ (mean_near _ n _ e some (λ i l. (among i l).error))).near;
    }
