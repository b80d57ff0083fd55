-- The exact position of a number, by the points round it.
use Rattle.std.specs.Prelude.{◌≡◌, ℕ, zero, suc, ◌+◌, ◌-◌, ◌*◌, ◌/◌, min, ◌<◌, ◌≤◌, ℤ, pos, ◌-ℤ◌, ◌*ℤ◌, ◌≤ℤ◌, ◌<ℤ◌, unsigned_abs, Bool, true, false, if◌then◌else◌, List, [], ◌∷◌, length}
use Rattle.std.proofs.Common.{refl, sym, ap, ◌∙◌, subst, arith}
use Rattle.std.proofs.lemmas.Int.{ints}
use borrow.Author.Differences.{at_most_in, below_in, same_in}
use Rattle.fx_fraction.specs.Fraction.{Fraction, denom, whole, plus, Is}
use Rattle.fx_fraction.proofs.Denominators.{is_divided, is_minus, is_nothing, is_plus, is_times, is_whole}
use Rattle.fx_fraction.proofs.Polynomials.{differences, as_difference, same}
use Rattle.fx_fraction.proofs.WholeNumbers.{int_eq_of-mul}
use Rattle.ifx_curves.proofs.CurvePoints.{at_most_out, not_at_most_out}
use Rattle.ifx_search.specs.Axes.{point_at}
use Rattle.ifx_search.specs.Positions.{is_at_most, position, way_in}

-- each point is above the one before
abbrev pub AreRising : List ℤ → Type 0
AreRising points = (i : ℕ) → suc i < length points → point_at points i <ℤ point_at points (suc i)

rising_tail : (p : ℤ) (points : List ℤ) → AreRising (p ∷ points) → AreRising points
rising_tail p points rising i h = rising (suc i) (omega (arith, h))

-- so the first is at most any
first_lowest : (points : List ℤ) (i : ℕ) → AreRising points → i < length points → point_at points 0 ≤ℤ point_at points i
first_lowest points zero rising h = at_most_in _ _ (omega arith)
first_lowest points (suc i) rising h =
    let before = first_lowest points i rising (omega (arith, h)) in
    let step = rising i h in
    at_most_in _ _ (omega (arith, ints, before, step))

renamed : {f : Fraction} {d e : ℕ} {x y : ℤ} → d ≡ e → x ≡ y → Is f d x → Is f e y
renamed {f} {d} {e} {x} {y} p q i = subst (λ n. Is f n y) p (subst (λ z. Is f d z) q i)

times_one : (z : ℤ) → z *ℤ pos 1 ≡ z
times_one z = omega (arith, ints)

abbrev is_plain : (z : ℤ) → Is (whole z) 1 z
is_plain z = renamed refl (times_one z) (is_whole z 1 (omega arith))

-- the way from p to x in the segment from p to q
way_is : (p q x : ℤ) → p <ℤ q → p ≤ℤ x → Is (way_in p q (whole x)) (unsigned_abs (q -ℤ p)) (pos (65536 * unsigned_abs (x -ℤ p)))
unfolding way_in
way_is p q x rise h =
    is_divided some
    (renamed (omega arith) (ap (λ z. pos 65536 *ℤ z) x_is) (is_times (is_plain (pos 65536)) (is_minus (is_plain x) (is_plain p))))
    (renamed refl q_is (is_minus (is_plain q) (is_plain p)))
  where
    some : 1 ≤ unsigned_abs (q -ℤ p)
    some = omega (arith, ints, rise)

    x_is : x -ℤ p ≡ pos (unsigned_abs (x -ℤ p))
    x_is = omega (arith, ints, h)

    q_is : q -ℤ p ≡ pos (unsigned_abs (q -ℤ p))
    q_is = omega (arith, ints, rise)

-- a whole number over any denominator
whole_over : (f : Fraction) (d e : ℕ) (z : ℤ) → 1 ≤ e → Is f d (z *ℤ pos d) → Is f e (z *ℤ pos e)
whole_over f d e z some i = record { positive = some; equal = ap (λ t. t *ℤ pos e) (int_eq_of-mul f.numer (z *ℤ pos (denom f)) d i.positive (i.equal ∙ swapped z d (denom f))) ∙ swapped z (denom f) e }
  where
    swapped : (z : ℤ) (a b : ℕ) → z *ℤ pos a *ℤ pos b ≡ z *ℤ pos b *ℤ pos a
    swapped z a b = rw (as_difference z) (simp differences (same _ _ _ _ (omega arith)))

-- a whole position, by the way behind a point
pub is_whole_position : (t : ℤ) (i w : ℕ) → t ≡ pos (65536 * i + w) → Is (whole t) 65536 (pos (65536 * i * 65536 + 65536 * w))
is_whole_position t i w e = renamed refl (ap (λ z. z *ℤ pos 65536) e ∙ ap pos (omega arith)) (is_whole t 65536 (omega arith))

pub word_parts : (t s : ℤ) (i n : ℕ) → s ≡ t → pos 0 ≤ℤ t → i ≡ min (unsigned_abs s / 65536) n → t ≡ pos (65536 * i + (unsigned_abs s - 65536 * i))
word_parts t s i n e h is =
    let least : i ≤ unsigned_abs s / 65536 = omega (arith, is) in
    omega (arith, ints, e, h, least)

-- the length of segment i, and the way in it to x
abbrev pub span_at : List ℤ → ℕ → ℕ
span_at points i = unsigned_abs (point_at points (suc i) -ℤ point_at points i)

abbrev pub way_at : List ℤ → ℕ → ℤ → ℕ
way_at points i x = unsigned_abs (x -ℤ point_at points i)

test_true : (x p : ℤ) → is_at_most (whole x) p ≡ true → x ≤ℤ p
test_true x p e = let h = at_most_out (whole x) p x 1 (is_plain x) e in at_most_in _ _ (omega (arith, ints, h))

test_false : (x p : ℤ) → is_at_most (whole x) p ≡ false → p <ℤ x
test_false x p e = let h = not_at_most_out (whole x) p x 1 (is_plain x) e in below_in _ _ (omega (arith, ints, h))

-- between point i and the next
pub is_position : (points : List ℤ) (i : ℕ) (x : ℤ) → AreRising points → suc i < length points → point_at points i ≤ℤ x → x ≤ℤ point_at points (suc i) → Is (position points (whole x)) (span_at points i) (pos (65536 * i * span_at points i + 65536 * way_at points i x))
unfolding position
is_position [] i x rising h low high = absurd (omega (arith, h))
is_position (p ∷ []) i x rising h low high = absurd (omega (arith, h))
is_position (p ∷ q ∷ points) zero x rising h low high = by_tests _ _ refl refl
  where
    rise : p <ℤ q
    rise = rising 0 (omega (arith, h))

    some : 1 ≤ unsigned_abs (q -ℤ p)
    some = omega (arith, ints, rise)

    by_tests : (a b : Bool) → is_at_most (whole x) p ≡ a → is_at_most (whole x) q ≡ b → Is (if a then whole (pos 0) else if b then way_in p q (whole x) else plus (whole (pos 65536)) (position (q ∷ points) (whole x))) (unsigned_abs (q -ℤ p)) (pos (65536 * 0 * unsigned_abs (q -ℤ p) + 65536 * unsigned_abs (x -ℤ p)))
    by_tests true b e f = let least = test_true x p e in renamed refl (ap pos (omega (arith, ints, least, low))) (is_nothing (unsigned_abs (q -ℤ p)) some)
    by_tests false true e f = renamed refl (ap pos (omega arith)) (way_is p q x rise low)
    by_tests false false e f = let above = test_false x q f in absurd (omega (arith, ints, above, high))
is_position (p ∷ q ∷ points) (suc j) x rising h low high = by_tests _ _ refl refl (is_position (q ∷ points) j x (rising_tail p (q ∷ points) rising) (omega (arith, h)) low high)
  where
    d : ℕ
    d = span_at (q ∷ points) j

    w : ℕ
    w = way_at (q ∷ points) j x

    rise : p <ℤ q
    rise = rising 0 (omega (arith, h))

    least : q ≤ℤ point_at (q ∷ points) j
    least = first_lowest (q ∷ points) j (rising_tail p (q ∷ points) rising) (omega (arith, h))

    some : 1 ≤ d
    some = let step = rising (suc j) h in omega (arith, ints, step)

    -- at point 1 the first segment's end
    at_end : x ≤ℤ q → (j ≡ 0) × (x ≡ q)
    at_end under = (place j least low under refl, same_in _ _ (omega (arith, ints, least, low, under)))
      where
        place : (k : ℕ) → q ≤ℤ point_at (q ∷ points) k → point_at (q ∷ points) k ≤ℤ x → x ≤ℤ q → j ≡ k → k ≡ 0
        place zero a b c e = refl
        place (suc k) a b c e =
            let before = first_lowest (q ∷ points) k (rising_tail p (q ∷ points) rising) (omega (arith, h, e)) in
            let step = rising_tail p (q ∷ points) rising k (omega (arith, h, e)) in
            absurd (omega (arith, ints, before, step, b, c))

    by_tests : (a b : Bool) → is_at_most (whole x) p ≡ a → is_at_most (whole x) q ≡ b → Is (position (q ∷ points) (whole x)) d (pos (65536 * j * d + 65536 * w)) → Is (if a then whole (pos 0) else if b then way_in p q (whole x) else plus (whole (pos 65536)) (position (q ∷ points) (whole x))) d (pos (65536 * suc j * d + 65536 * w))
    by_tests true b e f later = let under = test_true x p e in absurd (omega (arith, ints, under, rise, least, low))
    by_tests false true e f later =
        let end = at_end (test_true x q f) in
        let way = way_is p q x rise (at_most_in _ _ (omega (arith, ints, rise, least, low))) in
        let all : pos (65536 * unsigned_abs (x -ℤ p)) ≡ pos 65536 *ℤ pos (unsigned_abs (q -ℤ p)) = ap (λ z. pos (65536 * unsigned_abs (z -ℤ p))) end.1 in
        let none : w ≡ 0 = ap (λ z. unsigned_abs (z -ℤ point_at (q ∷ points) j)) end.1 ∙ ap (λ k. unsigned_abs (q -ℤ point_at (q ∷ points) k)) end.0 ∙ nothing q in
        renamed refl (ap pos (numbers j w d end.0 none)) (whole_over (way_in p q (whole x)) (unsigned_abs (q -ℤ p)) d (pos 65536) some (renamed refl all way))
      where
        nothing : (q : ℤ) → unsigned_abs (q -ℤ q) ≡ 0
        nothing q = omega (arith, ints)

        numbers : (j w d : ℕ) → j ≡ 0 → w ≡ 0 → 65536 * d ≡ 65536 * suc j * d + 65536 * w
        numbers j w d e e' = rw (e, e') (omega arith)
    by_tests false false e f later = renamed refl (omega (arith, ints)) (is_plus (is_whole (pos 65536) d some) later)

-- up to the first point
pub is_position_first : (points : List ℤ) (x : ℤ) → 2 ≤ length points → x ≤ℤ point_at points 0 → Is (position points (whole x)) 1 (pos 0)
unfolding position
is_position_first [] x some h = absurd (omega (arith, some))
is_position_first (p ∷ []) x some h = absurd (omega (arith, some))
is_position_first (p ∷ q ∷ points) x some h = by_test _ refl
  where
    by_test : (a : Bool) → is_at_most (whole x) p ≡ a → Is (if a then whole (pos 0) else if is_at_most (whole x) q then way_in p q (whole x) else plus (whole (pos 65536)) (position (q ∷ points) (whole x))) 1 (pos 0)
    by_test true e = is_plain (pos 0)
    by_test false e = let above = test_false x p e in absurd (omega (arith, ints, above, h))

-- from the last point on: 65536 for each segment
pub is_position_last : (points : List ℤ) (n : ℕ) (x : ℤ) → AreRising points → length points ≡ suc n → point_at points n ≤ℤ x → Is (position points (whole x)) 1 (pos (65536 * n))
unfolding position
is_position_last [] n x rising e h = absurd (omega (arith, e))
is_position_last (p ∷ []) n x rising e h = renamed refl (ap pos (omega (arith, e))) (is_plain (pos 0))
is_position_last (p ∷ q ∷ points) zero x rising e h = absurd (omega (arith, e))
is_position_last (p ∷ q ∷ points) (suc n) x rising e h = by_tests _ _ refl refl (is_position_last (q ∷ points) n x (rising_tail p (q ∷ points) rising) (omega (arith, e)) h)
  where
    rise : p <ℤ q
    rise = rising 0 (omega (arith, e))

    least : q ≤ℤ point_at (q ∷ points) n
    least = first_lowest (q ∷ points) n (rising_tail p (q ∷ points) rising) (omega (arith, e))

    place : (k : ℕ) → k ≡ n → x ≤ℤ q → k ≡ 0
    place zero s under = refl
    place (suc k) s under =
        let before = first_lowest (q ∷ points) k (rising_tail p (q ∷ points) rising) (omega (arith, e, s)) in
        let step = rising_tail p (q ∷ points) rising k (omega (arith, e, s)) in
        let end = subst (λ m. point_at (q ∷ points) m ≤ℤ x) (sym s) h in
        absurd (omega (arith, ints, before, step, end, under))

    by_tests : (a b : Bool) → is_at_most (whole x) p ≡ a → is_at_most (whole x) q ≡ b → Is (position (q ∷ points) (whole x)) 1 (pos (65536 * n)) → Is (if a then whole (pos 0) else if b then way_in p q (whole x) else plus (whole (pos 65536)) (position (q ∷ points) (whole x))) 1 (pos (65536 * suc n))
    by_tests true b f g later = let under = test_true x p f in absurd (omega (arith, ints, under, rise, least, h))
    by_tests false true f g later =
        let under = test_true x q g in
        let same_x : x ≡ q = same_in _ _ (omega (arith, ints, least, h, under)) in
        let way = way_is p q x rise (at_most_in _ _ (omega (arith, ints, rise, least, h))) in
        let all : pos (65536 * unsigned_abs (x -ℤ p)) ≡ pos 65536 *ℤ pos (unsigned_abs (q -ℤ p)) = ap (λ z. pos (65536 * unsigned_abs (z -ℤ p))) same_x in
        renamed refl (ap (λ m. pos (65536 * suc m)) (sym (place n refl under))) (whole_over (way_in p q (whole x)) (unsigned_abs (q -ℤ p)) 1 (pos 65536) (omega arith) (renamed refl all way))
    by_tests false false f g later = renamed refl (omega (arith, ints)) (is_plus (is_whole (pos 65536) 1 (omega arith)) later)
