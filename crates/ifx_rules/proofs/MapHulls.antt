-- The hull of a function of two numbers over two ranges, gathered column by column: those at the ends of the first range, then each that
-- lies inside it. A column is the hull along y at one place along x.
use Rattle.std.specs.Prelude.{◌≡◌, ℕ, ◌+◌, ◌<◌, ◌≤◌, ◌&&◌, Bool, true, if◌then◌else◌, List, [], ◌∷◌, ◌++◌, map, flat_map, fold, drop, length, ℤ, pos, int_le}
use Rattle.std.specs.Int.{int_min, int_max, w64}
use Rattle.std.proofs.Common.{FitsSigned, refl, sym, ap, ap₂, ◌∙◌, arith}
use Rattle.std.proofs.lemmas.Int.{ints, clamps, to_z-of_z}
use Rattle.std.proofs.lemmas.List.{at_drop_all}
use Rattle.std.proofs.lemmas.List.Sums.{fold-append}
use Rattle.fx_fraction.specs.Fraction.{Fraction, whole}
use Rattle.part_rules.specs.declared.bounds.Bounds.{Bounds}
use Rattle.part_rules.specs.declared.ranges.Range.{Range}
use Rattle.part_rules.specs.Entries.{IsSmall}
use Rattle.part_rules.specs.Ranges.{points_inside, corners_at, least_among, greatest_among}
use Rattle.part_rules.proofs.CornerHulls.{values_of_one}
use Rattle.part_rules.proofs.WordSteps.{is_low_end, is_high_end}
use Rattle.fx_core.proofs.WordSteps.{word_of}
use Rattle.ifx_search.specs.Axes.{point_at}
use Rattle.ifx_rules.specs.LookUpRules.{hull_at, rounded_down}
use Rattle.ifx_rules.specs.MapRules.{both_rounded_down, hull_over}
use Rattle.ifx_rules.proofs.LookUpHulls.{gathered, one_more}
use Rattle.ifx_rules.proofs.TwoHulls.{values_of_two}

-- ---- what lists one behind the other come to

record IsAssociative (op : ℤ → ℤ → ℤ) : Type 0 where
  same : (a b c : ℤ) → op (op a b) c ≡ op a (op b c)

min_associative : IsAssociative int_min
min_associative = record { same = λ a b c. omega (arith, ints, clamps) }

max_associative : IsAssociative int_max
max_associative = record { same = λ a b c. omega (arith, ints, clamps) }

fold_from : (op : ℤ → ℤ → ℤ) → IsAssociative op → (a v : ℤ) (vs : List ℤ) → fold op (op a v) vs ≡ op a (fold op v vs)
fold_from op s a v [] = refl
fold_from op s a v (w ∷ vs) = ap (λ b. fold op b vs) (s.same a v w) ∙ fold_from op s a (op v w) vs

lists_more : (op : ℤ → ℤ → ℤ) → IsAssociative op → (f : ℤ → ℤ → ℤ) (a y : ℤ) (xs ys : List ℤ) → fold op a (flat_map (λ x. map (f x) (y ∷ ys)) xs) ≡ fold op a (map (λ x. fold op (f x y) (map (f x) ys)) xs)
lists_more op s f a y [] ys = refl
lists_more op s f a y (x ∷ xs) ys =
    fold-append op a (map (f x) (y ∷ ys)) (flat_map (λ x. map (f x) (y ∷ ys)) xs)
    ∙ ap (λ b. fold op b (flat_map (λ x. map (f x) (y ∷ ys)) xs)) (fold_from op s a (f x y) (map (f x) ys))
    ∙ lists_more op s f (op a (fold op (f x y) (map (f x) ys))) y xs ys

lists_folded : (op : ℤ → ℤ → ℤ) → IsAssociative op → (f : ℤ → ℤ → ℤ) (x y : ℤ) (xs ys : List ℤ) → fold op (f x y) (map (f x) ys ++ flat_map (λ x. map (f x) (y ∷ ys)) xs) ≡ fold op (fold op (f x y) (map (f x) ys)) (map (λ x. fold op (f x y) (map (f x) ys)) xs)
lists_folded op s f x y xs ys =
    fold-append op (f x y) (map (f x) ys) (flat_map (λ x. map (f x) (y ∷ ys)) xs)
    ∙ lists_more op s f (fold op (f x y) (map (f x) ys)) y xs ys

-- ---- columns

-- the hull of the column at x
abbrev pub column_at : (Fraction → Fraction → Fraction) → List ℤ → Bounds → ℤ → Bounds
column_at value points_y y x = hull_at (value (whole x)) points_y y (pos 0)

column_low : (value : Fraction → Fraction → Fraction) (points_y : List ℤ) (y : Bounds) (x : ℤ) → fold int_min (both_rounded_down value x y.lo) (map (both_rounded_down value x) (y.hi ∷ points_inside y points_y)) ≡ (column_at value points_y y x).lo
column_low value points_y y x = ap least_among (sym (values_of_one (rounded_down (value (whole x))) (corners_at y points_y)))

column_high : (value : Fraction → Fraction → Fraction) (points_y : List ℤ) (y : Bounds) (x : ℤ) → fold int_max (both_rounded_down value x y.lo) (map (both_rounded_down value x) (y.hi ∷ points_inside y points_y)) ≡ (column_at value points_y y x).hi
column_high value points_y y x = ap greatest_among (sym (values_of_one (rounded_down (value (whole x))) (corners_at y points_y)))

map_same : (f g : ℤ → ℤ) → ((x : ℤ) → f x ≡ g x) → (xs : List ℤ) → map f xs ≡ map g xs
map_same f g h [] = refl
map_same f g h (x ∷ xs) = ap₂ (λ v vs. v ∷ vs) (h x) (map_same f g h xs)

columns_low : (value : Fraction → Fraction → Fraction) (points_y : List ℤ) (y : Bounds) (x : ℤ) (xs : List ℤ) →
    fold int_min (column_at value points_y y x).lo (map (λ x. (column_at value points_y y x).lo) xs) ≡ least_among (flat_map (λ x. map (both_rounded_down value x) (corners_at y points_y)) (x ∷ xs))
columns_low value points_y y x xs =
    let f = both_rounded_down value in
    let ys = y.hi ∷ points_inside y points_y in
    sym (ap₂ (fold int_min) (column_low value points_y y x) (map_same (λ x. fold int_min (f x y.lo) (map (f x) ys)) (λ x. (column_at value points_y y x).lo) (column_low value points_y y) xs))
    ∙ sym (lists_folded int_min min_associative f x y.lo xs ys)

columns_high : (value : Fraction → Fraction → Fraction) (points_y : List ℤ) (y : Bounds) (x : ℤ) (xs : List ℤ) →
    fold int_max (column_at value points_y y x).hi (map (λ x. (column_at value points_y y x).hi) xs) ≡ greatest_among (flat_map (λ x. map (both_rounded_down value x) (corners_at y points_y)) (x ∷ xs))
columns_high value points_y y x xs =
    let f = both_rounded_down value in
    let ys = y.hi ∷ points_inside y points_y in
    sym (ap₂ (fold int_max) (column_high value points_y y x) (map_same (λ x. fold int_max (f x y.lo) (map (f x) ys)) (λ x. (column_at value points_y y x).hi) (column_high value points_y y) xs))
    ∙ sym (lists_folded int_max max_associative f x y.lo xs ys)

-- ---- the hull so far

-- with the columns that are left a range is the hull
pub record AreColumnsSoFar (value : Fraction → Fraction → Fraction) (points_x points_y : List ℤ) (x y : Bounds) (left : List ℤ) (range : Range) : Type 0 where
  pub low : gathered int_min (λ z. (column_at value points_y y z).lo) x range.lo left ≡ (hull_over value points_x points_y x y (pos 0)).lo
  pub high : gathered int_max (λ z. (column_at value points_y y z).hi) x range.hi left ≡ (hull_over value points_x points_y x y (pos 0)).hi

-- the range of a column
pub record IsColumn (value : Fraction → Fraction → Fraction) (points_y : List ℤ) (y : Bounds) (x : ℤ) (range : Range) : Type 0 where
  pub low : range.lo ≡ (column_at value points_y y x).lo
  pub high : range.hi ≡ (column_at value points_y y x).hi

-- so are those at the two ends
pub columns_begun : (value : Fraction → Fraction → Fraction) (points_x points_y : List ℤ) (x y : Bounds) (first second range : Range) → IsSmall x → IsColumn value points_y y (word_of w64 x.lo) first → IsColumn value points_y y (word_of w64 x.hi) second → range.lo ≡ int_min first.lo second.lo → range.hi ≡ int_max first.hi second.hi → AreColumnsSoFar value points_x points_y x y points_x range
columns_begun value points_x points_y x y first second range small p q h k =
    let from = (is_low_end x (word_of w64 x.lo) small refl).value in
    let to = (is_high_end x (word_of w64 x.hi) small refl).value in
    let inside = x.hi ∷ points_inside x points_x in
    let corners = sym (values_of_two (both_rounded_down value) (corners_at x points_x) (corners_at y points_y)) in
    let low : ℤ → ℤ = λ z. (column_at value points_y y z).lo in
    let high : ℤ → ℤ = λ z. (column_at value points_y y z).hi in
    record {
      low = ap (λ n. gathered int_min low x n points_x) (h ∙ ap₂ int_min (p.low ∙ ap low from) (q.low ∙ ap low to)) ∙ columns_low value points_y y x.lo inside ∙ ap least_among corners;
      high = ap (λ n. gathered int_max high x n points_x) (k ∙ ap₂ int_max (p.high ∙ ap high from) (q.high ∙ ap high to)) ∙ columns_high value points_y y x.lo inside ∙ ap greatest_among corners;
    }

-- and at the end the range alone
pub record AreColumns (value : Fraction → Fraction → Fraction) (points_x points_y : List ℤ) (x y : Bounds) (range : Range) : Type 0 where
  pub low : range.lo ≡ (hull_over value points_x points_y x y (pos 0)).lo
  pub high : range.hi ≡ (hull_over value points_x points_y x y (pos 0)).hi

pub columns_done : (value : Fraction → Fraction → Fraction) (points_x points_y : List ℤ) (x y : Bounds) (i : ℕ) (range : Range) → length points_x ≤ i → AreColumnsSoFar value points_x points_y x y (drop i points_x) range → AreColumns value points_x points_y x y range
columns_done value points_x points_y x y i range h s = record {
  low = sym (at_drop_all (gathered int_min (λ z. (column_at value points_y y z).lo) x range.lo) points_x i h) ∙ s.low;
  high = sym (at_drop_all (gathered int_max (λ z. (column_at value points_y y z).hi) x range.hi) points_x i h) ∙ s.high;
}

pub columns_more : (value : Fraction → Fraction → Fraction) (points_x points_y : List ℤ) (x y : Bounds) (i : ℕ) (p : ℤ) (range next : Range) → i < length points_x → p ≡ point_at points_x i →
    next.lo ≡ (if int_le x.lo p && int_le p x.hi then int_min range.lo (column_at value points_y y p).lo else range.lo) → next.hi ≡ (if int_le x.lo p && int_le p x.hi then int_max range.hi (column_at value points_y y p).hi else range.hi) →
    AreColumnsSoFar value points_x points_y x y (drop i points_x) range → AreColumnsSoFar value points_x points_y x y (drop (i + 1) points_x) next
columns_more value points_x points_y x y i p range next h e lo hi s = record {
  low = one_more int_min (λ z. (column_at value points_y y z).lo) x points_x i range.lo next.lo p (column_at value points_y y p).lo h e (ap (λ z. (column_at value points_y y z).lo) e) lo ∙ s.low;
  high = one_more int_max (λ z. (column_at value points_y y z).hi) x points_x i range.hi next.hi p (column_at value points_y y p).hi h e (ap (λ z. (column_at value points_y y z).hi) e) hi ∙ s.high;
}

-- ---- a place that was passed

-- the number that was passed is the place, which lies inside a range
pub record IsThere (b : Bounds) (place passed : ℤ) : Type 0 where
  pub is : word_of w64 passed ≡ place
  pub inside : (int_le b.lo place && int_le place b.hi) ≡ true

pub is_there : (b : Bounds) (place passed : ℤ) (t : Bool) → FitsSigned w64 passed → passed ≡ place → t ≡ (int_le b.lo (word_of w64 passed) && int_le (word_of w64 passed) b.hi) → t ≡ true → IsThere b place passed
is_there b place passed t fits e test h =
    let is : word_of w64 passed ≡ place = to_z-of_z w64 passed fits ∙ e in
    record { is = is; inside = ap (λ p. int_le b.lo p && int_le p b.hi) (sym is) ∙ sym test ∙ h }
