-- Where no fault is told, the points make an axis; and what is told of points in equal steps.
use Rattle.std.specs.Prelude.{◌≡◌, ℕ, zero, suc, ◌+◌, ◌-◌, ◌<◌, ◌≤◌, ℤ, pos, ◌+ℤ◌, ◌*ℤ◌, ◌≤ℤ◌, ◌<ℤ◌, int_le, Bool, true, false, not, nat_lt, if◌then◌else◌, List, length, Option, Some, None}
use Rattle.std.proofs.Common.{refl, sym, ap, ap₂, ◌∙◌, subst, arith}
use Rattle.std.proofs.lemmas.Int.{ints}
use Rattle.std.proofs.lemmas.Bool.Decides.{nat_tests}
use borrow.Author.Differences.{at_most_in, below_in}
use Rattle.fx_fraction.proofs.Polynomials.{as_difference, differences, same}
use Rattle.fx_fraction.proofs.WholeNumbers.{int_le-false}
use Rattle.fx_core.specs.declared.word_type.Ty.{Ty}
use Rattle.fx_core.specs.Types.{holds, width_of}
use Rattle.fx_core.proofs.TypeLaws.{Holds-holds}
use Rattle.ifx_search.specs.declared.axis.AxisFault.{AxisFault}
use Rattle.ifx_search.specs.declared.axis.AxisFault.TheVariants.{TooFew, TooMany, OutOfType, NotRising}
use Rattle.ifx_search.specs.Axes.{IsAxis, axis_fault, fault_at, first_place, is_not_above, is_outside, point_at, stepped_points}
use Rattle.ifx_search.proofs.Places.{found_here, found_later, found_nowhere, is_nowhere, nowhere}
use Rattle.ifx_search.proofs.Points.{point_at-stepped}

fault_is_not_none : (f : AxisFault) → Some f ≡ None → ⊥
fault_is_not_none f h = cc

not_false : (b : Bool) → not b ≡ false → b ≡ true
not_false true e = refl
not_false false e = sym e

-- the places at which nothing was found
pub record AreSound (ty : Ty) (points : List ℤ) : Type 0 where
  pub some : 2 ≤ length points
  pub few : length points ≤ 4096
  pub outside : first_place (is_outside ty points) 0 (length points) ≡ None
  pub low : first_place (is_not_above points) 1 (length points - 1) ≡ None

no_place : (a b : Option ℕ) → fault_at a b ≡ None → (a ≡ None) × (b ≡ None)
no_place None None e = (refl, refl)
no_place None (Some i) e = absurd (fault_is_not_none (NotRising i) e)
no_place (Some i) b e = absurd (fault_is_not_none (OutOfType i) e)

sound_by : (ty : Ty) (points : List ℤ) (a b : Bool) → nat_lt (length points) 2 ≡ a → nat_lt 4096 (length points) ≡ b
    → (if a then Some TooFew else if b then Some TooMany else fault_at (first_place (is_outside ty points) 0 (length points)) (first_place (is_not_above points) 1 (length points - 1))) ≡ None
    → AreSound ty points
sound_by ty points true b p q e = absurd (fault_is_not_none TooFew e)
sound_by ty points false true p q e = absurd (fault_is_not_none TooMany e)
sound_by ty points false false p q e =
    let found = no_place (first_place (is_outside ty points) 0 (length points)) (first_place (is_not_above points) 1 (length points - 1)) e in
    record { some = grind (arith, nat_tests); few = grind (arith, nat_tests); outside = found.0; low = found.1 }

pub are_sound : (ty : Ty) (points : List ℤ) → axis_fault ty points ≡ None → AreSound ty points
are_sound ty points e = sound_by ty points (nat_lt (length points) 2) (nat_lt 4096 (length points)) refl refl e

place_before : (i : ℕ) → suc i - 1 ≡ i
place_before i = omega arith

pub is_axis : (ty : Ty) (points : List ℤ) → width_of ty ≤ 16 → axis_fault ty points ≡ None → IsAxis ty points
is_axis ty points narrow e =
    let sound = are_sound ty points e in record {
      narrow = narrow;
      some = sound.some;
      few = sound.few;
      held = λ i h. Holds-holds ty (point_at points i) (not_false (holds ty (point_at points i)) (is_nowhere (is_outside ty points) 0 (length points) sound.outside i (omega arith) (omega (arith, h))));
      rising = λ i h. int_le-false (point_at points (suc i)) (point_at points i) (subst (λ k. int_le (point_at points (suc i)) (point_at points k) ≡ false) (place_before i) (is_nowhere (is_not_above points) 1 (length points - 1) sound.low (suc i) (omega arith) (omega (arith, h))));
    }

-- ---- the faults, by their tests

pub few_points : (ty : Ty) (points : List ℤ) (n : ℕ) → length points ≡ n → n < 2 → Some TooFew ≡ axis_fault ty points
few_points ty points n e h = grind (arith, nat_tests)

pub many_points : (ty : Ty) (points : List ℤ) (n : ℕ) → length points ≡ n → 4096 < n → Some TooMany ≡ axis_fault ty points
many_points ty points n e h = grind (arith, nat_tests)

pub by_places : (ty : Ty) (points : List ℤ) (n : ℕ) → length points ≡ n → 2 ≤ n → n ≤ 4096 → (a b : Option ℕ) → a ≡ first_place (is_outside ty points) 0 n → b ≡ first_place (is_not_above points) 1 (n - 1) → fault_at a b ≡ axis_fault ty points
by_places ty points n e some few a b p q = grind (arith, nat_tests)

-- ---- equal steps: where the step isn't above 0 the second point is the first that doesn't rise, and else all rise

is_le : (a b : ℤ) → a ≤ℤ b → int_le a b ≡ true
is_le a b h = grind (arith, ints)

is_not_le : (a b : ℤ) → b <ℤ a → int_le a b ≡ false
is_not_le a b h = grind (arith, ints)

suc-times : (i : ℕ) (s : ℤ) → pos (suc i) *ℤ s ≡ pos i *ℤ s +ℤ s
suc-times i s = rw (as_difference s) (simp differences (same _ _ _ _ (omega arith)))

step_above : (offset step : ℤ) (i : ℕ) → pos 0 <ℤ step → (offset +ℤ pos i *ℤ step) <ℤ (offset +ℤ pos (suc i) *ℤ step)
step_above offset step i h = below_in _ _ (omega (arith, ints, suc-times i step, h))

pub flat_steps : (offset step : ℤ) (n : ℕ) → 2 ≤ n → step ≤ℤ pos 0 → Some 1 ≡ first_place (is_not_above (stepped_points offset step n)) 1 (n - 1)
flat_steps offset step n some h =
    let flat : (offset +ℤ pos 1 *ℤ step) ≤ℤ (offset +ℤ pos 0 *ℤ step) = at_most_in (offset +ℤ pos 1 *ℤ step) (offset +ℤ pos 0 *ℤ step) (omega (arith, ints, suc-times 0 step, h)) in
    let second = point_at-stepped offset step n 1 (omega (arith, some)) in
    let first = point_at-stepped offset step n 0 (omega (arith, some)) in
    sym (found_here (is_not_above (stepped_points offset step n)) 1 n (omega (arith, some)) (ap₂ int_le second first ∙ is_le (offset +ℤ pos 1 *ℤ step) (offset +ℤ pos 0 *ℤ step) flat))

low_at : (offset step : ℤ) (n i : ℕ) → pos 0 <ℤ step → 1 ≤ i → i < n → is_not_above (stepped_points offset step n) i ≡ false
low_at offset step n zero h low high = absurd (omega (arith, low))
low_at offset step n (suc i) h low high =
    subst (λ k. int_le (point_at (stepped_points offset step n) (suc i)) (point_at (stepped_points offset step n) k) ≡ false) (sym (place_before i))
    (ap₂ int_le (point_at-stepped offset step n (suc i) high) (point_at-stepped offset step n i (omega (arith, high))) ∙ is_not_le (offset +ℤ pos (suc i) *ℤ step) (offset +ℤ pos i *ℤ step) (step_above offset step i h))

pub rising_steps : (offset step : ℤ) (n : ℕ) → pos 0 <ℤ step → None ≡ first_place (is_not_above (stepped_points offset step n)) 1 (n - 1)
rising_steps offset step n h = sym (nowhere (is_not_above (stepped_points offset step n)) 1 (n - 1) (λ i low high. low_at offset step n i h low (omega (arith, low, high))))

-- a walk over equal steps that has come to point i, by what the type says of it
outside_step : (ty : Ty) (offset step : ℤ) (n i : ℕ) (b : Bool) → i < n → holds ty (offset +ℤ pos i *ℤ step) ≡ b → is_outside ty (stepped_points offset step n) i ≡ not b
outside_step ty offset step n i b h e = ap (λ v. not (holds ty v)) (point_at-stepped offset step n i h) ∙ ap not e

pub step_outside : (ty : Ty) (offset step : ℤ) (n i : ℕ) (r : Option ℕ) → first_place (is_outside ty (stepped_points offset step n)) i (n - i) ≡ r → i < n → holds ty (offset +ℤ pos i *ℤ step) ≡ false → Some i ≡ r
step_outside ty offset step n i r e h f = sym (found_here (is_outside ty (stepped_points offset step n)) i n h (outside_step ty offset step n i false h f)) ∙ e

pub step_inside : (ty : Ty) (offset step : ℤ) (n i : ℕ) (r : Option ℕ) → first_place (is_outside ty (stepped_points offset step n)) i (n - i) ≡ r → i < n → holds ty (offset +ℤ pos i *ℤ step) ≡ true → first_place (is_outside ty (stepped_points offset step n)) (i + 1) (n - (i + 1)) ≡ r
step_inside ty offset step n i r e h f = found_later (is_outside ty (stepped_points offset step n)) i n r e h (outside_step ty offset step n i true h f)

pub steps_inside : (ty : Ty) (offset step : ℤ) (n i : ℕ) (r : Option ℕ) → first_place (is_outside ty (stepped_points offset step n)) i (n - i) ≡ r → n ≤ i → None ≡ r
steps_inside ty offset step n i r e h = sym (found_nowhere (is_outside ty (stepped_points offset step n)) i n h) ∙ e
