-- Each position has a place on the curves through so many heights: what it makes of the two heights there, whatever they are.
use Rattle.std.specs.Prelude.{◌≡◌, ℕ, zero, suc, ◌-◌, ◌*◌, ◌<◌, ◌≤◌, Bool, true, false, cond, List, [], ◌∷◌, length, ℤ, pos, ◌+ℤ◌, ◌*ℤ◌, ◌≤ℤ◌, unsigned_abs}
use Rattle.std.proofs.Common.{refl, sym, subst, arith, mul-zero, zero-mul}
use Rattle.std.proofs.lemmas.Int.{ints}
use borrow.Author.Differences.{up, down}
use Rattle.fx_fraction.specs.Fraction.{Fraction, denom, whole, minus, Is}
use Rattle.fx_fraction.proofs.Polynomials.{differences, as_difference, same}
use Rattle.fx_fraction.proofs.WholeNumbers.{int_le-true, int_le-false, int_le_of-lt}
use Rattle.fx_fraction.proofs.Denominators.{is_self, is_scaled}
use Rattle.ifx_search.specs.Positions.{is_at_most}
use Rattle.ifx_curves.specs.Curves.{curve_through, on_way}
use Rattle.ifx_curves.proofs.CurvePoints.{height_at, is_on_way}

-- two heights, each weighted by the way from the other one
abbrev pub mean : ℕ → ℕ → ℤ → ℤ → ℤ
mean span way x y = x *ℤ pos (span - way) +ℤ y *ℤ pos way

-- the curve at t through n heights is the mean of those at place and behind it
pub record IsPlace (n : ℕ) (t : Fraction) : Type 0 where
  pub place : ℕ
  pub span : ℕ
  pub way : ℕ
  pub some : 1 ≤ span
  pub inside : suc place < n
  pub short : way ≤ span
  pub through : (heights : List Fraction) (c : ℕ) (x y : ℤ) → length heights ≡ n → Is (height_at heights place) c x → Is (height_at heights (suc place)) c y → Is (curve_through heights t) (c * span) (mean span way x y)

-- ---- before the first height and behind the last

none_of : (z : ℤ) → z *ℤ pos 0 ≡ pos 0
none_of z = rw (as_difference z) (simp differences (same _ _ _ _ (omega (arith, mul-zero (up z), mul-zero (down z)))))

all_first : (x y : ℤ) → x *ℤ pos 1 ≡ mean 1 0 x y
all_first x y = omega (arith, ints, none_of y)

all_second : (x y : ℤ) → y *ℤ pos 1 ≡ mean 1 1 x y
all_second x y = omega (arith, ints, none_of x)

before : (t : Fraction) (heights : List Fraction) (n c : ℕ) (x y : ℤ) → is_at_most t (pos 0) ≡ true → length heights ≡ suc (suc n) → Is (height_at heights 0) c x → Is (curve_through heights t) (c * 1) (mean 1 0 x y)
unfolding curve_through
before t [] n c x y e h i = absurd (omega (arith, h))
before t (f ∷ []) n c x y e h i = absurd (omega (arith, h))
before t (f ∷ g ∷ heights) n c x y e h i =
    subst (λ b. Is (cond b f (cond (is_at_most t (pos 65536)) (on_way f g t) (curve_through (g ∷ heights) (minus t (whole (pos 65536)))))) (c * 1) (mean 1 0 x y)) (sym e)
    (subst (Is f (c * 1)) (all_first x y) (is_scaled 1 (omega arith) i))

behind : (t : Fraction) (heights : List Fraction) (c : ℕ) (x y : ℤ) → is_at_most t (pos 0) ≡ false → is_at_most t (pos 65536) ≡ false → length heights ≡ 2 → Is (height_at heights 1) c y → Is (curve_through heights t) (c * 1) (mean 1 1 x y)
unfolding curve_through
behind t [] c x y d e h i = absurd (omega (arith, h))
behind t (f ∷ []) c x y d e h i = absurd (omega (arith, h))
behind t (f ∷ g ∷ []) c x y d e h i =
    subst (λ b. Is (cond b f (cond (is_at_most t (pos 65536)) (on_way f g t) g)) (c * 1) (mean 1 1 x y)) (sym d)
    (subst (λ b. Is (cond b (on_way f g t) g) (c * 1) (mean 1 1 x y)) (sym e) (subst (Is g (c * 1)) (all_second x y) (is_scaled 1 (omega arith) i)))
behind t (f ∷ g ∷ k ∷ heights) c x y d e h i = absurd (omega (arith, h))

-- ---- in the first segment

first_way : (t : Fraction) → is_at_most t (pos 0) ≡ false → is_at_most t (pos 65536) ≡ true → unsigned_abs t.numer ≤ 65536 * denom t
first_way t d e =
    let low = int_le-false t.numer (pos 0 *ℤ pos (denom t)) d in
    let high = int_le-true t.numer (pos 65536 *ℤ pos (denom t)) e in
    omega (arith, ints, low, high)

first_numer : (n : ℤ) (d : ℕ) → (pos 0 *ℤ pos d) ≤ℤ n → n *ℤ pos 65536 ≡ pos (65536 * unsigned_abs n)
first_numer n d h = omega (arith, ints, zero-mul d, h)

in_first : (t : Fraction) (heights : List Fraction) (n c : ℕ) (x y : ℤ) → is_at_most t (pos 0) ≡ false → is_at_most t (pos 65536) ≡ true → length heights ≡ suc (suc n) → Is (height_at heights 0) c x → Is (height_at heights 1) c y →
    Is (curve_through heights t) (c * (denom t * 65536)) (mean (denom t * 65536) (unsigned_abs t.numer) x y)
unfolding curve_through
in_first t [] n c x y d e h i j = absurd (omega (arith, h))
in_first t (f ∷ []) n c x y d e h i j = absurd (omega (arith, h))
in_first t (f ∷ g ∷ heights) n c x y d e h i j =
    let low : (pos 0 *ℤ pos (denom t)) ≤ℤ t.numer = int_le_of-lt _ _ (int_le-false t.numer (pos 0 *ℤ pos (denom t)) d) in
    let at : Is t (denom t * 65536) (pos (65536 * unsigned_abs t.numer)) = subst (Is t (denom t * 65536)) (first_numer t.numer (denom t) low) (is_scaled 65536 (omega arith) (is_self t)) in
    let m = mean (denom t * 65536) (unsigned_abs t.numer) x y in
    subst (λ b. Is (cond b f (cond (is_at_most t (pos 65536)) (on_way f g t) (curve_through (g ∷ heights) (minus t (whole (pos 65536)))))) (c * (denom t * 65536)) m) (sym d)
    (subst (λ b. Is (cond b (on_way f g t) (curve_through (g ∷ heights) (minus t (whole (pos 65536))))) (c * (denom t * 65536)) m) (sym e)
    (is_on_way f g t c (denom t * 65536) (unsigned_abs t.numer) x y (omega (arith, first_way t d e)) i j at))

-- ---- further on

further : (t : Fraction) (n : ℕ) → is_at_most t (pos 0) ≡ false → is_at_most t (pos 65536) ≡ false → IsPlace n (minus t (whole (pos 65536))) → IsPlace (suc n) t
unfolding curve_through
further t n d e p = record {
  place = suc p.place;
  span = p.span;
  way = p.way;
  some = p.some;
  inside = omega (arith, p.inside);
  short = p.short;
  through = through;
}
  where
    through : (heights : List Fraction) (c : ℕ) (x y : ℤ) → length heights ≡ suc n → Is (height_at heights (suc p.place)) c x → Is (height_at heights (suc (suc p.place))) c y → Is (curve_through heights t) (c * p.span) (mean p.span p.way x y)
    through [] c x y h i j = absurd (omega (arith, h))
    through (f ∷ []) c x y h i j = absurd (omega (arith, h, p.inside))
    through (f ∷ g ∷ heights) c x y h i j =
        subst (λ b. Is (cond b f (cond (is_at_most t (pos 65536)) (on_way f g t) (curve_through (g ∷ heights) (minus t (whole (pos 65536)))))) (c * p.span) (mean p.span p.way x y)) (sym d)
        (subst (λ b. Is (cond b (on_way f g t) (curve_through (g ∷ heights) (minus t (whole (pos 65536))))) (c * p.span) (mean p.span p.way x y)) (sym e)
        (p.through (g ∷ heights) c x y (omega (arith, h)) i j))

by_tests : (n : ℕ) (t : Fraction) (a b : Bool) → is_at_most t (pos 0) ≡ a → is_at_most t (pos 65536) ≡ b → (1 ≤ n → IsPlace (suc n) (minus t (whole (pos 65536)))) → IsPlace (suc (suc n)) t
by_tests n t true b d e later = record {
  place = 0;
  span = 1;
  way = 0;
  some = omega arith;
  inside = omega arith;
  short = omega arith;
  through = λ heights c x y h i j. before t heights n c x y d h i;
}
by_tests n t false true d e later = record {
  place = 0;
  span = denom t * 65536;
  way = unsigned_abs t.numer;
  some = omega arith;
  inside = omega arith;
  short = omega (arith, first_way t d e);
  through = λ heights c x y h i j. in_first t heights n c x y d e h i j;
}
by_tests zero t false false d e later = record {
  place = 0;
  span = 1;
  way = 1;
  some = omega arith;
  inside = omega arith;
  short = omega arith;
  through = λ heights c x y h i j. behind t heights c x y d e h j;
}
by_tests (suc n) t false false d e later = further t (suc (suc n)) d e (later (omega arith))

pub place_of : (n : ℕ) (t : Fraction) → 2 ≤ n → IsPlace n t
place_of zero t h = absurd (omega (arith, h))
place_of (suc zero) t h = absurd (omega (arith, h))
place_of (suc (suc n)) t h = by_tests n t _ _ refl refl (λ some. place_of (suc n) (minus t (whole (pos 65536))) (omega (arith, some)))
