-- What passes the tests of a line makes an axis or a table.
use Rattle.std.proofs.Common.{◌≡◌, ◌∙◌, ℕ, zero, suc, ◌+◌, ◌*◌, ◌-◌, ◌<◌, ◌≤◌, List, [], ◌∷◌, length, drop, Bool, true, false, true≢false, not, ◌&&◌, nat_le, nat_lt, cond, leb-true, le-ltb, mul-le-mul, FitsSigned, w64, ◌^◌, ap, ap₂, subst, sym, refl, ℤ, pos, negsuc, ◌+ℤ◌, ◌-ℤ◌, ◌*ℤ◌, ◌<ℤ◌, ◌≤ℤ◌, int_le, unsigned_abs, Some, None, arith}
use Rattle.std.specs.List.{list_all}
use Rattle.std.proofs.Math.Nat.{mul-le-mul_right, suc-mul}
use Rattle.std.proofs.lemmas.List.{length-drop}
use Rattle.std.proofs.lemmas.Bool.{and_parts}
use Rattle.std.proofs.lemmas.Int.{ints, fits_signed_from_abs}
use Rattle.fx_core.specs.declared.word_type.Ty.{Ty}
use Rattle.fx_core.specs.declared.word_type.Ty.TheVariants.{U8, S8, U16, S16, U32, S32}
use Rattle.fx_core.specs.Types.{Holds, holds, width_of, least_of, greatest_of}
use Rattle.fx_core.proofs.TypeLaws.{Holds-holds, holds-Holds}
use Rattle.ifx_search.specs.declared.axis.AxisFault.{AxisFault}
use Rattle.ifx_search.specs.declared.axis.AxisFault.TheVariants.{TooFew as FewPoints, TooMany as ManyPoints}
use Rattle.ifx_search.specs.Axes.{IsAxis, axis_fault, fault_at, first_place, is_not_above, is_outside, point_at, stepped_points}
use Rattle.ifx_search.proofs.Places.{nowhere}
use Rattle.ifx_search.proofs.Points.{length-stepped_points, point_at-stepped}
use Rattle.ifx_curves.specs.declared.table.TableFault.TheVariants.{TooFew as FewValues, TooMany as ManyValues}
use Rattle.ifx_curves.specs.Tables.{IsTable, table_fault, value_at, is_outside as is_value_outside, fault_at as value_fault_at}
use Rattle.net_model.specs.BlockForms.{in_range as is_in_range}
use Rattle.net_text.specs.Forms.{are_values, rises, steps, counts, are_steps}

-- ---- listed numbers

lt_from_test : (a b : ℤ) → not (int_le b a) ≡ true → a <ℤ b
lt_from_test a b h = grind (arith, ints)

held_at : (ty : Ty) (numbers : List ℤ) (i : ℕ) → list_all (λ n. holds ty n) numbers ≡ true → i < length numbers → Holds ty (point_at numbers i)
held_at ty [] i h lt = absurd (omega arith)
held_at ty (n ∷ numbers) zero h lt = Holds-holds ty n (and_parts (holds ty n) (list_all (λ n. holds ty n) numbers) h).0
held_at ty (n ∷ numbers) (suc i) h lt = held_at ty numbers i (and_parts (holds ty n) (list_all (λ n. holds ty n) numbers) h).1 (omega arith)

rising_at : (points : List ℤ) (i : ℕ) → rises points ≡ true → suc i < length points → point_at points i <ℤ point_at points (suc i)
rising_at [] i h lt = absurd (omega arith)
rising_at (p ∷ []) i h lt = absurd (omega arith)
rising_at (p ∷ q ∷ points) zero h lt = lt_from_test p q (and_parts (not (int_le q p)) (rises (q ∷ points)) h).0
rising_at (p ∷ q ∷ points) (suc i) h lt = rising_at (q ∷ points) i (and_parts (not (int_le q p)) (rises (q ∷ points)) h).1 (omega arith)

pub listed_is_axis : (ty : Ty) (points : List ℤ) → width_of ty ≤ 16 → (are_values ty points && rises points) ≡ true → nat_le (length points) 4096 ≡ true → IsAxis ty points
listed_is_axis ty points narrow good few =
    let p = and_parts (are_values ty points) (rises points) good in
    let q = and_parts (nat_le 2 (length points)) (list_all (λ n. holds ty n) points) p.0 in
    record {
      narrow = narrow;
      some = leb-true 2 (length points) q.0;
      few = leb-true (length points) 4096 few;
      held = λ i lt. held_at ty points i q.1 lt;
      rising = λ i lt. rising_at points i p.1 lt;
    }

pub values_are_table : (ty : Ty) (values : List ℤ) → width_of ty ≤ 16 → are_values ty values ≡ true → nat_le (length values) 4096 ≡ true → IsTable ty values
values_are_table ty values narrow good few =
    let q = and_parts (nat_le 2 (length values)) (list_all (λ n. holds ty n) values) good in
    record { narrow = narrow; some = leb-true 2 (length values) q.0; few = leb-true (length values) 4096 few; held = λ i lt. held_at ty values i q.1 lt }

-- numbers that are left with at most one rise
rises_short : (points : List ℤ) → length points ≤ 1 → rises points ≡ true
rises_short [] h = refl
rises_short (p ∷ []) h = refl
rises_short (p ∷ q ∷ points) h = absurd (omega (arith, h))

pub rises_end : (points : List ℤ) (i : ℕ) (whole : Bool) → length points ≤ i → rises (drop (i - 1) points) ≡ whole → true ≡ whole
rises_end points i whole past had =
    let left = length-drop (i - 1) points in sym (rises_short (drop (i - 1) points) (omega (arith, left))) ∙ had

-- room for a list of so many numbers
pub room_few : (count above : ℕ) → (nat_le count 4096 && nat_lt above 64) ≡ true → nat_le count 4096 ≡ true
room_few count above h = (and_parts (nat_le count 4096) (nat_lt above 64) h).0

-- ---- no fault

not_le : (a b : ℤ) → b <ℤ a → int_le a b ≡ false
not_le a b h = grind (arith, ints)

not_above_before : (points : List ℤ) (i : ℕ) → ((k : ℕ) → suc k < length points → point_at points k <ℤ point_at points (suc k)) → 1 ≤ i → i < 1 + (length points - 1) → is_not_above points i ≡ false
not_above_before points zero rising low high = absurd (omega arith)
not_above_before points (suc k) rising low high =
    let before : suc k - 1 ≡ k = omega arith in
    ap (λ n. int_le (point_at points (suc k)) (point_at points n)) before ∙ not_le (point_at points (suc k)) (point_at points k) (rising k (omega arith))

pub no_axis_fault : (ty : Ty) (points : List ℤ) → IsAxis ty points → axis_fault ty points ≡ None
no_axis_fault ty points axis =
    let n = length points in
    let outside : first_place (is_outside ty points) 0 n ≡ None = nowhere (is_outside ty points) 0 n (λ i low high. ap not (holds-Holds ty (point_at points i) (axis.held i (omega (arith, high))))) in
    let flat : first_place (is_not_above points) 1 (n - 1) ≡ None = nowhere (is_not_above points) 1 (n - 1) (λ i low high. not_above_before points i axis.rising low high) in
    ap₂ (λ a b. cond a (Some FewPoints) (cond b (Some ManyPoints) (fault_at (first_place (is_outside ty points) 0 n) (first_place (is_not_above points) 1 (n - 1))))) (le-ltb n 2 axis.some) (le-ltb 4096 n axis.few)
    ∙ ap₂ fault_at outside flat

pub no_table_fault : (ty : Ty) (values : List ℤ) → IsTable ty values → table_fault ty values ≡ None
no_table_fault ty values table =
    let n = length values in
    let outside : first_place (is_value_outside ty values) 0 n ≡ None = nowhere (is_value_outside ty values) 0 n (λ i low high. ap not (holds-Holds ty (value_at values i) (table.held i (omega (arith, high))))) in
    ap₂ (λ a b. cond a (Some FewValues) (cond b (Some ManyValues) (value_fault_at (first_place (is_value_outside ty values) 0 n)))) (le-ltb n 2 table.some) (le-ltb 4096 n table.few)
    ∙ ap value_fault_at outside

-- where a line has passed its tests
pub points_pass : (ty : Ty) (points : List ℤ) (above : ℕ) → width_of ty ≤ 16 → (are_values ty points && rises points) ≡ true → (nat_le (length points) 4096 && nat_lt above 64) ≡ true → axis_fault ty points ≡ None
points_pass ty points above narrow good room =
    no_axis_fault ty points (listed_is_axis ty points narrow good (and_parts (nat_le (length points) 4096) (nat_lt above 64) room).0)

pub values_pass : (ty : Ty) (values : List ℤ) (above : ℕ) → width_of ty ≤ 16 → are_values ty values ≡ true → (nat_le (length values) 4096 && nat_lt above 64) ≡ true → table_fault ty values ≡ None
values_pass ty values above narrow good room =
    no_table_fault ty values (values_are_table ty values narrow good (and_parts (nat_le (length values) 4096) (nat_lt above 64) room).0)

-- ---- equal steps

-- what the tests of a step and a count say of natural numbers
record IsGrid (step count : ℤ) : Type 0 where
  rise : ℕ
  number : ℕ
  step_is : step ≡ pos rise
  count_is : count ≡ pos number
  above : 1 ≤ rise
  some : 2 ≤ number
  low : rise ≤ 65535
  few : number ≤ 65536

is_grid : (step count : ℤ) → (is_in_range steps step && is_in_range counts count) ≡ true → IsGrid step count
is_grid (negsuc m) count h = absurd (cc)
is_grid (pos m) (negsuc n) h = let p = and_parts (is_in_range steps (pos m)) (is_in_range counts (negsuc n)) h in absurd (true≢false (sym p.1))
is_grid (pos m) (pos n) h =
    let p = and_parts (is_in_range steps (pos m)) (is_in_range counts (pos n)) h in
    let s = and_parts (nat_le 1 m) (nat_le m 65535) p.0 in
    let c = and_parts (nat_le 2 n) (nat_le n 65536) p.1 in
    record { rise = m; number = n; step_is = refl; count_is = refl; above = leb-true 1 m s.0; some = leb-true 2 n c.0; low = leb-true m 65535 s.1; few = leb-true n 65536 c.1 }

-- the way from the first point to the last
one_less : (n : ℕ) → 1 ≤ n → pos n -ℤ pos 1 ≡ pos (n - 1)
one_less n h = omega (arith, ints)

way_is : (step count : ℤ) (g : IsGrid step count) → (count -ℤ pos 1) *ℤ step ≡ pos ((g.number - 1) * g.rise)
way_is step count g =
    ap₂ (λ c s. (c -ℤ pos 1) *ℤ s) g.count_is g.step_is ∙ ap (λ c. c *ℤ pos g.rise) (one_less g.number (omega (arith, g.some)))

way_small : (step count : ℤ) (g : IsGrid step count) → (g.number - 1) * g.rise ≤ 65535 * 65535
way_small step count g = mul-le-mul {n₁ = g.number - 1} {m₁ = g.rise} {n₂ = 65535} {m₂ = 65535} (omega (arith, g.few)) g.low

-- that the last point is computed in 64 bits
pub record Fits64 (offset step count : ℤ) : Type 0 where
  pub less : FitsSigned w64 (count -ℤ pos 1)
  pub way : FitsSigned w64 ((count -ℤ pos 1) *ℤ step)
  pub sum : FitsSigned w64 (offset +ℤ (count -ℤ pos 1) *ℤ step)

natural_fits : (n : ℕ) → n ≤ 65535 * 65535 → FitsSigned w64 (pos n)
natural_fits n h = record { sfits = omega (arith, ints) }

sum_fits : (offset : ℤ) (n : ℕ) → unsigned_abs offset ≤ 2 ^ 32 → n ≤ 65535 * 65535 → FitsSigned w64 (offset +ℤ pos n)
sum_fits offset n small h = fits_signed_from_abs w64 (offset +ℤ pos n) (omega (arith, ints, small, h))

pub last_fits : (offset step count : ℤ) → (is_in_range steps step && is_in_range counts count) ≡ true → unsigned_abs offset ≤ 2 ^ 32 → Fits64 offset step count
last_fits offset step count h small =
    let g = is_grid step count h in
    let way = way_is step count g in
    let size = way_small step count g in
    record {
      less = subst (λ c. FitsSigned w64 (c -ℤ pos 1)) (sym g.count_is) (subst (λ z. FitsSigned w64 z) (sym (one_less g.number (omega (arith, g.some)))) (natural_fits (g.number - 1) (omega (arith, g.few))));
      way = subst (λ z. FitsSigned w64 z) (sym way) (natural_fits ((g.number - 1) * g.rise) size);
      sum = subst (λ z. FitsSigned w64 (offset +ℤ z)) (sym way) (sum_fits offset ((g.number - 1) * g.rise) small size);
    }

-- a number of a type is small
small_by : (ty : Ty) (v : ℤ) → Holds ty v → unsigned_abs v ≤ 2 ^ 32
small_by U8 v (p, q) = omega (arith, ints, p, q)
small_by S8 v (p, q) = omega (arith, ints, p, q)
small_by U16 v (p, q) = omega (arith, ints, p, q)
small_by S16 v (p, q) = omega (arith, ints, p, q)
small_by U32 v (p, q) = omega (arith, ints, p, q)
small_by S32 v (p, q) = omega (arith, ints, p, q)

pub held_is_small : (ty : Ty) (v : ℤ) → holds ty v ≡ true → unsigned_abs v ≤ 2 ^ 32
held_is_small ty v h = small_by ty v (Holds-holds ty v h)

-- the tests of equal steps, one by one
record IsStepped (ty : Ty) (offset step count : ℤ) : Type 0 where
  grid : IsGrid step count
  first : Holds ty offset
  last : Holds ty (offset +ℤ pos ((grid.number - 1) * grid.rise))

is_stepped : (ty : Ty) (offset step count : ℤ) → are_steps ty offset step count ≡ true → IsStepped ty offset step count
is_stepped ty offset step count h =
    let last = offset +ℤ (count -ℤ pos 1) *ℤ step in
    let p = and_parts (is_in_range steps step && is_in_range counts count && holds ty offset) (holds ty last) h in
    let q = and_parts (is_in_range steps step && is_in_range counts count) (holds ty offset) p.0 in
    let g = is_grid step count q.0 in
    record { grid = g; first = Holds-holds ty offset q.1; last = subst (λ z. Holds ty (offset +ℤ z)) (way_is step count g) (Holds-holds ty last p.1) }

between_ends : (low high offset : ℤ) (a b : ℕ) → low ≤ℤ offset → (offset +ℤ pos b) ≤ℤ high → a ≤ b → (low ≤ℤ (offset +ℤ pos a)) × ((offset +ℤ pos a) ≤ℤ high)
between_ends low high offset a b p q le = (omega (arith, ints), omega (arith, ints))

higher : (offset : ℤ) (a b m : ℕ) → b ≡ a + m → 1 ≤ m → (offset +ℤ pos a) <ℤ (offset +ℤ pos b)
higher offset a b m is some = omega (arith, ints)

-- points in equal steps that pass make an axis
pub stepped_is_axis : (ty : Ty) (offset step count : ℤ) → width_of ty ≤ 16 → are_steps ty offset step count ≡ true → nat_le (unsigned_abs count) 4096 ≡ true → IsAxis ty (stepped_points offset step (unsigned_abs count))
stepped_is_axis ty offset step count narrow good few =
    let s = is_stepped ty offset step count good in
    let g = s.grid in
    let m = g.rise in
    let n = g.number in
    let size : unsigned_abs count ≡ n = ap unsigned_abs g.count_is in
    let many : n ≤ 4096 = leb-true n 4096 (subst (λ k. nat_le k 4096 ≡ true) size few) in
    subst (λ z. IsAxis ty (stepped_points offset step z)) (sym size)
    (subst (λ z. IsAxis ty (stepped_points offset z n)) (sym g.step_is) (by_numbers m n g.above g.some many s.first s.last))
  where
    by_numbers : (m n : ℕ) → 1 ≤ m → 2 ≤ n → n ≤ 4096 → Holds ty offset → Holds ty (offset +ℤ pos ((n - 1) * m)) → IsAxis ty (stepped_points offset (pos m) n)
    by_numbers m n above some many first last =
        let points = stepped_points offset (pos m) n in
        let len : length points ≡ n = length-stepped_points offset (pos m) n in
        let at : (i : ℕ) → i < n → point_at points i ≡ offset +ℤ pos (i * m) = λ i lt. point_at-stepped offset (pos m) n i lt in
        record {
          narrow = narrow;
          some = omega (arith, len, some);
          few = omega (arith, len, many);
          held = λ i lt.
              let below : i < n = omega (arith, len, lt) in
              let within : i * m ≤ (n - 1) * m = mul-le-mul_right m (omega (arith, below)) in
              subst (λ z. Holds ty z) (sym (at i below)) (between_ends (least_of ty) (greatest_of ty) offset (i * m) ((n - 1) * m) first.0 last.1 within);
          rising = λ i lt.
              let below : suc i < n = omega (arith, len, lt) in
              subst (λ z. z <ℤ point_at points (suc i)) (sym (at i (omega (arith, below))))
              (subst (λ z. (offset +ℤ pos (i * m)) <ℤ z) (sym (at (suc i) below)) (higher offset (i * m) (suc i * m) m (suc-mul i m) above));
        }

-- what the code of an axis in equal steps owes
pub record IsMadeOf (ty : Ty) (offset step count : ℤ) : Type 0 where
  pub small : unsigned_abs offset ≤ 2 ^ 32
  pub short : unsigned_abs step ≤ 2 ^ 32
  pub good : axis_fault ty (stepped_points offset step (unsigned_abs count)) ≡ None

pub made_of_steps : (ty : Ty) (offset step count : ℤ) → width_of ty ≤ 16 → are_steps ty offset step count ≡ true → nat_le (unsigned_abs count) 4096 ≡ true → IsMadeOf ty offset step count
made_of_steps ty offset step count narrow good few =
    let s = is_stepped ty offset step count good in
    let size : unsigned_abs step ≡ s.grid.rise = ap unsigned_abs s.grid.step_is in
    record {
      small = small_by ty offset s.first;
      short = omega (arith, size, s.grid.low);
      good = no_axis_fault ty (stepped_points offset step (unsigned_abs count)) (stepped_is_axis ty offset step count narrow good few);
    }

-- a count that passes is a natural number
pub count_natural : (ty : Ty) (offset step count : ℤ) → are_steps ty offset step count ≡ true → (n : ℕ) × (count ≡ pos n) × (n ≤ 65536)
count_natural ty offset step count good =
    let g = (is_stepped ty offset step count good).grid in (g.number, g.count_is, g.few)

-- points that make an axis have no fault
pub no_fault_left : (ty : Ty) (offset step shown_offset shown_step : ℤ) (n shown : ℕ) (fault : AxisFault) → shown_offset ≡ offset → shown_step ≡ step → shown ≡ n → axis_fault ty (stepped_points offset step n) ≡ None → axis_fault ty (stepped_points shown_offset shown_step shown) ≡ Some fault → ⊥
no_fault_left ty offset step shown_offset shown_step n shown fault a b c none some =
    let same : axis_fault ty (stepped_points shown_offset shown_step shown) ≡ axis_fault ty (stepped_points offset step n) = ap₂ (λ o s. axis_fault ty (stepped_points o s shown)) a b ∙ ap (λ m. axis_fault ty (stepped_points offset step m)) c in
    not_both fault (sym some ∙ same ∙ none)
  where
    not_both : (f : AxisFault) → Some f ≡ None → ⊥
    not_both f h = cc
