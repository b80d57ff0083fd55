-- The value of a position, by the segment in which a number lies.
use Rattle.std.specs.Prelude.{◌≡◌, ℕ, zero, suc, pred, ◌+◌, ◌*◌, ◌/◌, ◌<◌, ◌≤◌, ℤ, pos, negsuc, ◌+ℤ◌, ◌-ℤ◌, ◌*ℤ◌, ◌≤ℤ◌, ◌<ℤ◌, int_le, unsigned_abs, Bool, true, false, if◌then◌else◌, List, [], ◌∷◌, length}
use Rattle.std.proofs.Common.{refl, sym, ap, ap₂, ◌∙◌, subst, arith, mul_comm}
use Rattle.std.proofs.Math.Nat.{mul-div-mul_right, mul-div_right, zero-div, mul-pos}
use Rattle.std.proofs.lemmas.Int.{ints}
use borrow.Author.Differences.{at_most_in, below_in}
use Rattle.fx_fraction.specs.Fraction.{Fraction, denom, whole, plus, minus, Is}
use Rattle.fx_fraction.proofs.Denominators.{is_divided, is_minus, is_times, is_whole}
use Rattle.fx_fraction.proofs.WholeNumbers.{int_add-mul, int_le-true, int_le_antisymm, int_lt-le_trans, int_mul-one, int_le_refl, int_le_trans, int_le_of-lt}
use Rattle.fx_core.specs.declared.quotient.Mode.TheVariants.{Floor}
use Rattle.fx_core.specs.Rounding.{floor_quotient, rounded}
use Rattle.fx_core.specs.Values.{rounded_fraction}
use Rattle.fx_core.proofs.RoundingLaws.{floor_quotient_bounds, rounded_from_rounds}
use Rattle.fx_core.proofs.Integers.{next-*ℤ}
use Rattle.ifx_search.specs.Axes.{point_at}
use Rattle.ifx_search.specs.Positions.{position, position_value, way_in}

-- ---- rounding downward

-- a fraction that isn't negative, by any of its names
floor_named : (m : ℤ) (a n d : ℕ) → 1 ≤ a → 1 ≤ d → m *ℤ pos d ≡ pos n *ℤ pos a → floor_quotient m (pos a) ≡ pos (n / d)
floor_named (pos m) a n d p q e =
    ap pos (sym (mul-div-mul_right m a q) ∙ ap₂ (λ s t. s / t) (ap unsigned_abs e) (mul_comm a d) ∙ mul-div-mul_right n d p)
floor_named (negsuc m) a n d p q e = absurd (omega (arith, mul-pos q p, ints, e))

floor_is : {f : Fraction} {d n : ℕ} → Is f d (pos n) → rounded_fraction Floor f ≡ pos (n / d)
unfolding rounded
floor_is {f} {d} {n} i = floor_named f.numer (denom f) n d (omega arith) i.positive i.equal

floor_whole : (z : ℤ) → rounded_fraction Floor (whole (pos 0)) ≡ pos 0
unfolding rounded whole
floor_whole z = refl

-- a whole number goes out
floor_more : (z m : ℤ) (k : ℕ) → 1 ≤ k → rounded Floor (z *ℤ pos k +ℤ m) (pos k) ≡ z +ℤ rounded Floor m (pos k)
unfolding rounded
floor_more z m k some =
    let one : pos 1 ≤ℤ pos k = at_most_in _ _ (omega (arith, some)) in
    let r = floor_quotient m (pos k) in
    let bounds = floor_quotient_bounds m k one in
    let next : (r +ℤ pos 1) *ℤ pos k ≡ r *ℤ pos k +ℤ pos k = next-*ℤ r (pos k) in
    let high = rw next at bounds.1 in
    let sum : (z +ℤ r) *ℤ pos k ≡ z *ℤ pos k +ℤ r *ℤ pos k = int_add-mul z r (pos k) in
    let above : (z +ℤ r +ℤ pos 1) *ℤ pos k ≡ (z +ℤ r) *ℤ pos k +ℤ pos k = next-*ℤ (z +ℤ r) (pos k) in
    sym (rounded_from_rounds Floor (z *ℤ pos k +ℤ m) (pos k) (z +ℤ r) one
    (at_most_in _ _ (omega (arith, ints, sum, bounds.0)), below_in _ _ (omega (arith, ints, sum, above, high))))

plus-whole : (z : ℤ) (f : Fraction) → plus (whole z) f ≡ record { numer = z *ℤ pos (denom f) +ℤ f.numer; less = f.less }
unfolding plus whole
plus-whole z f = ap₂ (λ n l. record { numer = n; less = l }) (ap (λ t. z *ℤ pos (denom f) +ℤ t) (int_mul-one f.numer)) (same f.less)
  where
    same : (n : ℕ) → pred (1 * suc n) ≡ n
    same n = ap pred (one n)
      where
        one : (n : ℕ) → 1 * suc n ≡ suc n
        one n = omega arith

floor-plus : (z : ℤ) (f : Fraction) → rounded_fraction Floor (plus (whole z) f) ≡ z +ℤ rounded_fraction Floor f
floor-plus z f = ap (rounded_fraction Floor) (plus-whole z f) ∙ floor_more z f.numer (denom f) (omega arith)

-- ---- one segment

-- the steps of a position at a whole number
position-whole : (p q x : ℤ) (points : List ℤ) → position (p ∷ q ∷ points) (whole x) ≡ (if int_le x p then whole (pos 0) else if int_le x q then way_in p q (whole x) else plus (whole (pos 65536)) (position (q ∷ points) (whole x)))
unfolding position whole
position-whole p q x points = ap₂ (λ s t. if int_le x s then whole (pos 0) else if int_le x t then way_in p q (whole x) else plus (whole (pos 65536)) (position (q ∷ points) (whole x))) (int_mul-one p) (int_mul-one q)

renamed : {f : Fraction} {d e : ℕ} {x y : ℤ} → d ≡ e → x ≡ y → Is f d x → Is f e y
renamed {f} {d} {e} {x} {y} p q i = subst (λ n. Is f n y) p (subst (λ z. Is f d z) q i)

difference : (p x : ℤ) → Is (minus (whole x) (whole p)) 1 (x -ℤ p)
difference p x = renamed refl (ap₂ (λ s t. s -ℤ t) (int_mul-one x) (int_mul-one p)) (is_minus (is_whole x 1 (omega arith)) (is_whole p 1 (omega arith)))

natural_difference : (p x : ℤ) → p ≤ℤ x → x -ℤ p ≡ pos (unsigned_abs (x -ℤ p))
natural_difference p x h = omega (arith, ints, h)

way_is : (p q x : ℤ) → p <ℤ q → p ≤ℤ x → Is (way_in p q (whole x)) (unsigned_abs (q -ℤ p)) (pos (unsigned_abs (x -ℤ p) * 65536))
unfolding way_in
way_is p q x rise h =
    is_divided (omega (arith, ints, rise))
    (renamed (omega arith) (ap₂ (λ s t. s *ℤ t) (int_mul-one (pos 65536)) (natural_difference p x h) ∙ ap pos (mul_comm 65536 _)) (is_times (is_whole (pos 65536) 1 (omega arith)) (difference p x)))
    (renamed refl (natural_difference p q (int_le_of-lt p q rise)) (difference p q))

-- the value of the way in a segment
way_value : (p q x : ℤ) → p <ℤ q → p ≤ℤ x → rounded_fraction Floor (way_in p q (whole x)) ≡ pos (unsigned_abs (x -ℤ p) * 65536 / unsigned_abs (q -ℤ p))
way_value p q x rise h = floor_is (way_is p q x rise h)

is_le : (a b : ℤ) → a ≤ℤ b → int_le a b ≡ true
is_le a b h = grind (arith, ints)

-- up to the first point
at_first : (q x : ℤ) (points : List ℤ) → x ≤ℤ q → position_value (q ∷ points) x ≡ pos 0
unfolding position
at_first q x [] h = floor_whole x
at_first q x (r ∷ points) h =
    ap (rounded_fraction Floor) (position-whole q r x points ∙ ap (λ b. if b then whole (pos 0) else if int_le x r then way_in q r (whole x) else plus (whole (pos 65536)) (position (r ∷ points) (whole x))) (is_le x q h))
    ∙ floor_whole x

nothing_over : (n : ℕ) → 0 * 65536 / n ≡ 0
nothing_over n = zero-div n

-- in the first segment
segment_by : (p q x : ℤ) (points : List ℤ) (b : Bool) → p <ℤ q → p ≤ℤ x → x ≤ℤ q → int_le x p ≡ b → position_value (p ∷ q ∷ points) x ≡ pos (unsigned_abs (x -ℤ p) * 65536 / unsigned_abs (q -ℤ p))
segment_by p q x points true rise low high e =
    let none : unsigned_abs (x -ℤ p) ≡ 0 = omega (arith, ints, low, int_le-true x p e) in
    at_first p x (q ∷ points) (int_le-true x p e) ∙ ap pos (sym (ap (λ n. n * 65536 / unsigned_abs (q -ℤ p)) none ∙ nothing_over (unsigned_abs (q -ℤ p))))
segment_by p q x points false rise low high e =
    ap (rounded_fraction Floor)
    (position-whole p q x points
    ∙ ap₂ (λ b c. if b then whole (pos 0) else if c then way_in p q (whole x) else plus (whole (pos 65536)) (position (q ∷ points) (whole x))) e (is_le x q high))
    ∙ way_value p q x rise low

segment_in : (p q x : ℤ) (points : List ℤ) → p <ℤ q → p ≤ℤ x → x ≤ℤ q → position_value (p ∷ q ∷ points) x ≡ pos (unsigned_abs (x -ℤ p) * 65536 / unsigned_abs (q -ℤ p))
segment_in p q x points rise low high = segment_by p q x points (int_le x p) rise low high refl

-- behind the first segment
passed_by : (p q x : ℤ) (points : List ℤ) (b : Bool) → p <ℤ q → q ≤ℤ x → int_le x q ≡ b → position_value (p ∷ q ∷ points) x ≡ pos 65536 +ℤ position_value (q ∷ points) x
passed_by p q x points true rise low e =
    let high = int_le-true x q e in
    let whole_way : unsigned_abs (x -ℤ p) ≡ unsigned_abs (q -ℤ p) = ap (λ t. unsigned_abs (t -ℤ p)) (int_le_antisymm x q high low) in
    segment_in p q x points rise (int_le_trans p q x (int_le_of-lt p q rise) low) high
    ∙ ap (λ n. pos (n * 65536 / unsigned_abs (q -ℤ p))) whole_way
    ∙ ap pos (mul-div_right 65536 (omega (arith, ints, rise)))
    ∙ sym (ap (λ t. pos 65536 +ℤ t) (at_first q x points high))
passed_by p q x points false rise low e =
    ap (rounded_fraction Floor)
    (position-whole p q x points
    ∙ ap₂ (λ b c. if b then whole (pos 0) else if c then way_in p q (whole x) else plus (whole (pos 65536)) (position (q ∷ points) (whole x))) (is_not_le x p (int_lt-le_trans p q x rise low)) e)
    ∙ floor-plus (pos 65536) (position (q ∷ points) (whole x))
  where
    is_not_le : (a b : ℤ) → b <ℤ a → int_le a b ≡ false
    is_not_le a b h = grind (arith, ints)

segment_passed : (p q x : ℤ) (points : List ℤ) → p <ℤ q → q ≤ℤ x → position_value (p ∷ q ∷ points) x ≡ pos 65536 +ℤ position_value (q ∷ points) x
segment_passed p q x points rise low = passed_by p q x points (int_le x q) rise low refl

-- ---- a whole axis

-- each point is above the one before
abbrev Rises : List ℤ → Type 0
Rises points = (i : ℕ) → suc i < length points → point_at points i <ℤ point_at points (suc i)

rises_later : (p : ℤ) (points : List ℤ) → Rises (p ∷ points) → Rises points
rises_later p points r i h = r (suc i) (omega (arith, h))

first_least : (p : ℤ) (points : List ℤ) (i : ℕ) → Rises (p ∷ points) → i < length (p ∷ points) → p ≤ℤ point_at (p ∷ points) i
first_least p points zero r h = int_le_refl p
first_least p [] (suc i) r h = absurd (omega (arith, h))
first_least p (q ∷ points) (suc i) r h =
    int_le_trans p q _ (int_le_of-lt p q (r 0 (omega arith))) (first_least q points i (rises_later p (q ∷ points) r) (omega (arith, h)))

-- the value of a position between point i and the next one
pub value_between : (points : List ℤ) (x : ℤ) (i : ℕ) → Rises points → suc i < length points → point_at points i ≤ℤ x → x <ℤ point_at points (suc i)
    → position_value points x ≡ pos (i * 65536 + unsigned_abs (x -ℤ point_at points i) * 65536 / unsigned_abs (point_at points (suc i) -ℤ point_at points i))
value_between [] x i r h low high = absurd (omega (arith, h))
value_between (p ∷ []) x i r h low high = absurd (omega (arith, h))
value_between (p ∷ q ∷ points) x zero r h low high = segment_in p q x points (r 0 h) low (int_le_of-lt x q high) ∙ ap pos (omega arith)
value_between (p ∷ q ∷ points) x (suc i) r h low high =
    let later = rises_later p (q ∷ points) r in
    let inside : i < length (q ∷ points) = omega (arith, h) in
    segment_passed p q x points (r 0 (omega arith)) (int_le_trans q _ x (first_least q points i later inside) low)
    ∙ ap (λ t. pos 65536 +ℤ t) (value_between (q ∷ points) x i later (omega (arith, h)) low high)
    ∙ ap pos (omega arith)

-- from the last point on
pub value_from_last : (points : List ℤ) (x : ℤ) (k : ℕ) → Rises points → suc k ≡ length points → point_at points k ≤ℤ x → position_value points x ≡ pos (k * 65536)
unfolding position
value_from_last [] x k r h low = absurd (omega (arith, h))
value_from_last (p ∷ []) x zero r h low = floor_whole x
value_from_last (p ∷ []) x (suc k) r h low = absurd (omega (arith, h))
value_from_last (p ∷ q ∷ points) x zero r h low = absurd (omega (arith, h))
value_from_last (p ∷ q ∷ points) x (suc k) r h low =
    let later = rises_later p (q ∷ points) r in
    let inside : k < length (q ∷ points) = omega (arith, h) in
    segment_passed p q x points (r 0 (omega arith)) (int_le_trans q _ x (first_least q points k later inside) low)
    ∙ ap (λ t. pos 65536 +ℤ t) (value_from_last (q ∷ points) x k later (omega (arith, h)) low)
    ∙ ap pos (omega arith)

-- and below the first one
pub value_below_first : (points : List ℤ) (x : ℤ) → x ≤ℤ point_at points 0 → position_value points x ≡ pos 0
unfolding position
value_below_first [] x h = floor_whole x
value_below_first (p ∷ points) x h = at_first p x points h
